-- What a query on a part of a memory tells of the whole, and what is known of a replica's place.
use Rattle.std.proofs.Common.{◌≡◌, ◌+◌, ◌==◌, ℕ, true, List, [], ◌++◌, length, take, drop, append-nil, refl, ap, sym, subst, ◌∙◌, arith, IsTrue, Some, Result, Ok, Err, OnOk, eq-eqb}
use Rattle.std.proofs.lemmas.Bool.{and_from, and_parts, eqb-true}
use Rattle.std.proofs.lemmas.List.{length-drop, length-take-le, take-append-drop}
use Rattle.std.proofs.lemmas.List.Folds.{list_any_at}
use Rattle.std.proofs.lemmas.Map.Views.{Contains-from_any}
use Rattle.std.specs.List.{Contains}
use Rattle.cx_base.specs.Memory.{Always, Becomes, Reads}
use Rattle.cx_core.specs.Inside.{Inside}
use Rattle.cx_core.specs.Region.{object_part}
use Rattle.replica.specs.Regions.{has_loaded, is_same}

module _ {Key : Type 0} where
  -- the words of the whole that are from a place on are words of that part
  inside_whole : (stands : Key → List ℕ → Type 0) (from len : ℕ) (first : Key) (ws : List ℕ) → length ws ≡ from + len → stands first ws → Inside stands from len (first, take from ws, []) (drop from ws)
  inside_whole stands from len first ws size s = record {
    whole = subst (stands first) (sym (append-nil (take from ws ++ drop from ws) ∙ take-append-drop from ws)) s;
    front = length-take-le from ws (omega (arith, size));
    long = length-drop from ws ∙ omega (arith, size);
  }

  -- where the part is as it was, so is the whole
  part_unmoved : (old new : Key → List ℕ → Type 0) (from len : ℕ) → ((first : Key) (now : List ℕ) → new first now → length now ≡ from + len) → Becomes (Inside old from len) (Inside new from len) ◌≡◌ → Becomes old new ◌≡◌
  part_unmoved old new from len long b = record {
    from = λ first ws s. (
        let p = b.from (first, take from ws, []) (drop from ws) (inside_whole new from len first ws (long first ws s) s) in (
          ws,
          subst (old first) (append-nil (take from ws ++ drop from ws) ∙ take-append-drop from ws) (subst (λ xs. old first (take from ws ++ xs ++ [])) p.2 p.1.whole),
          refl,
        ));
  }

  -- what is so of the part is so of the words from there on
  part_reads : (old new : Key → List ℕ → Type 0) (P : List ℕ → Type 0) (from len : ℕ) → ((first : Key) (now : List ℕ) → new first now → length now ≡ from + len) → Becomes old new ◌≡◌ → Always (Inside new from len) P → Reads old new (λ ws. P (drop from ws))
  part_reads old new P from len long b all = record {
    from = λ first ws s. (
        let p = b.from first ws s in
        (subst (old first) p.2 p.1, all (first, take from ws, []) (drop from ws) (inside_whole new from len first ws (long first ws s) s)));
  }

  -- an object's query on a region's object part
  pub part_queried : {A E : Type 0} (old new : Key → List ℕ → Type 0) (step : List ℕ → List ℕ → List ℕ × List ℕ) (op reply : List ℕ) (result : Result A E) (len from' len' : ℕ) →
      from' ≡ 1168 → len' ≡ len → ((first : Key) (now : List ℕ) → new first now → length now ≡ 1168 + len) →
      Becomes (Inside old 1168 len) (Inside new from' len') ◌≡◌ → OnOk result (Always (Inside new from' len') (λ now. step now op ≡ (now, reply))) →
      Becomes old new ◌≡◌ × OnOk result (Reads old new (λ region. (step (object_part region) op).1 ≡ reply))
  unfolding object_part
  part_queried {A = A} {E = E} old new step op reply result len from' len' f l long kept done = (unmoved, by result queried)
    where
      unmoved : Becomes old new ◌≡◌
      unmoved = part_unmoved old new 1168 len long (subst (λ m. Becomes (Inside old 1168 len) (Inside new 1168 m) ◌≡◌) l (subst (λ n. Becomes (Inside old 1168 len) (Inside new n len') ◌≡◌) f kept))

      queried : OnOk result (Always (Inside new 1168 len) (λ now. step now op ≡ (now, reply)))
      queried = subst (λ m. OnOk result (Always (Inside new 1168 m) (λ now. step now op ≡ (now, reply)))) l (subst (λ n. OnOk result (Always (Inside new n len') (λ now. step now op ≡ (now, reply)))) f done)

      by : (r : Result A E) → OnOk r (Always (Inside new 1168 len) (λ now. step now op ≡ (now, reply))) → OnOk r (Reads old new (λ region. (step (drop 1168 region) op).1 ≡ reply))
      by (Ok x) all = part_reads old new (λ part. (step part op).1 ≡ reply) 1168 len long unmoved (λ key part s. ap (λ p. p.1) (all key part s))
      by (Err e) all = tt

-- two pairs of numbers are equal where the test says that they are
same_pair : (x y : ℕ × ℕ) → is_same x y ≡ true → x ≡ y
same_pair x y e =
    let both = and_parts (x.0 == y.0) (x.1 == y.1) e in
    ap (λ a. (a, x.1)) (eqb-true x.0 y.0 both.0) ∙ ap (λ b. (y.0, b)) (eqb-true x.1 y.1 both.1)

-- a place that was loaded is among the words loaded
pub contains_loaded : (place : ℕ) (loaded : List (ℕ × ℕ)) → IsTrue (has_loaded (Some place) loaded) → Contains loaded (0, place)
contains_loaded place loaded e = Contains-from_any same_pair (0, place) loaded e

pub loaded_contains : (place : ℕ) (loaded : List (ℕ × ℕ)) → Contains loaded (0, place) → IsTrue (has_loaded (Some place) loaded)
loaded_contains place loaded (k, below, is) =
    list_any_at (is_same (0, place)) loaded k (0, place) below (and_from _ _ (eq-eqb _ _ (ap (λ x. x.0) (sym is))) (eq-eqb _ _ (ap (λ x. x.1) (sym is))))
