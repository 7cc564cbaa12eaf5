-- Where a walk by an order ends, and what putting an item there makes of a tree.
use Rattle.std.proofs.Common.{◌≡◌, ◌≢◌, List, [], ◌∷◌, ◌++◌, length, length-append, refl, sym, ap, subst, ◌∙◌, append_assoc, arith, lit≤}
use Rattle.std.specs.List.{All}
use Rattle.std.specs.declared.cmp.Ordering.{Ordering}
use Rattle.std.specs.declared.cmp.Ordering.TheVariants.{Less, Equal, Greater}
use Rattle.std.proofs.lemmas.List.{append-nil}
use Rattle.std.proofs.lemmas.List.Elements.{All-nil, All-cons, All-head, All-tail, All-push, All-same}
use Rattle.avl_words.specs.Tree.{Tree, Empty, Node, items, size, Balanced}
use Rattle.avl_words.specs.Ways.{Turn, by_order, whole, before, behind, spot, IsCutBy, WayEnds, with_new}
use Rattle.avl_words.proofs.Trees.{whole_items, mended_items, mended_balanced}

-- what holds of each choice under its ordering holds of the one that `o` chooses
pub by_order_both : {B : Type 0} (o : Ordering) (a b c : B) (P : B → Type 0) → (o ≡ Less → P a) → (o ≡ Equal → P b) → (o ≡ Greater → P c) → P (by_order o a b c)
by_order_both Less a b c P p q r = p refl
by_order_both Equal a b c P p q r = q refl
by_order_both Greater a b c P p q r = r refl

pub less_from : (o : Ordering) → (o ≢ Less → ⊥) → o ≡ Less
less_from Less h = refl
less_from Equal h = absurd (h (λ (e : Equal ≡ Less). (let f : ⊥ = cc in f)))
less_from Greater h = absurd (h (λ (e : Greater ≡ Less). (let f : ⊥ = cc in f)))

all_right : {X : Type 0} (P : X → Type 0) (xs ys : List X) → All P (xs ++ ys) → All P ys
all_right P [] ys a = a
all_right P (x ∷ xs) ys a = all_right P xs ys (All-tail P x (xs ++ ys) a)

module _ {A : Type 0} where
  -- the items of a whole with the node `x` at the end of a way: those before it, `x`, and those behind it
  pub parted : (way : List (Turn A)) (l : Tree A) (x : A) (r : Tree A) → items (whole way (Node l x r)) ≡ (before way ++ items l) ++ x ∷ (items r ++ behind way)
  parted way l x r = whole_items way (Node l x r) ∙ simp append_assoc

  pub size_is : (t : Tree A) → size t ≡ length (items t)
  size_is Empty = refl
  size_is (Node l x r) = (let a = size_is l in let b = size_is r in let c = length-append (items l) (x ∷ items r) in omega (arith, c))

  module _ (order : A → Ordering) where
    -- in a list cut by an order, all behind an item `x` that is not below what is sought are above it
    cut_above : (xs : List A) (x : A) (ys : List A) → IsCutBy order (xs ++ x ∷ ys) → order x ≢ Less → All (λ y. order y ≡ Greater) ys
    cut_above [] x ys c n = c.0 n
    cut_above (z ∷ xs) x ys c n = cut_above xs x ys c.1 n

    -- in a list cut by an order, all before an item `x` that is not above what is sought are below it
    cut_below : (xs : List A) (x : A) (ys : List A) → IsCutBy order (xs ++ x ∷ ys) → order x ≢ Greater → All (λ y. order y ≡ Less) xs
    cut_below [] x ys c n = All-nil (λ y. order y ≡ Less)
    cut_below (z ∷ xs) x ys c n =
        All-cons (λ y. order y ≡ Less) z xs (less_from (order z) (λ m. n (All-head (λ y. order y ≡ Greater) x ys (all_right (λ y. order y ≡ Greater) xs (x ∷ ys) (c.0 m)))))
        (cut_below xs x ys c.1 n)

    -- a walk at a node `x` below what is sought ends where a walk in its right tree does
    pub spot_right : (way : List (Turn A)) (l : Tree A) (x : A) (r : Tree A) → order x ≡ Less → spot order way (Node l x r) ≡ spot order (record { side = 1; item = x; sibling = l } ∷ way) r
    spot_right way l x r e = ap (λ o. by_order o (spot order (record { side = 1; item = x; sibling = l } ∷ way) r) (way, Node l x r) (spot order (record { side = 0; item = x; sibling = r } ∷ way) l)) e

    -- a walk at a node `x` that is what is sought ends there
    pub spot_here : (way : List (Turn A)) (l : Tree A) (x : A) (r : Tree A) → order x ≡ Equal → spot order way (Node l x r) ≡ (way, Node l x r)
    spot_here way l x r e = ap (λ o. by_order o (spot order (record { side = 1; item = x; sibling = l } ∷ way) r) (way, Node l x r) (spot order (record { side = 0; item = x; sibling = r } ∷ way) l)) e

    -- a walk at a node `x` above what is sought ends where a walk in its left tree does
    pub spot_left : (way : List (Turn A)) (l : Tree A) (x : A) (r : Tree A) → order x ≡ Greater → spot order way (Node l x r) ≡ spot order (record { side = 0; item = x; sibling = r } ∷ way) l
    spot_left way l x r e = ap (λ o. by_order o (spot order (record { side = 1; item = x; sibling = l } ∷ way) r) (way, Node l x r) (spot order (record { side = 0; item = x; sibling = r } ∷ way) l)) e

    pub spot_whole : (way : List (Turn A)) (t : Tree A) → whole (spot order way t).0 (spot order way t).1 ≡ whole way t
    spot_whole way Empty = refl
    spot_whole way (Node l x r) =
        by_order_both (order x) (spot order (record { side = 1; item = x; sibling = l } ∷ way) r) (way, Node l x r) (spot order (record { side = 0; item = x; sibling = r } ∷ way) l) (λ s. whole s.0 s.1 ≡ whole way (Node l x r))
        (λ _. spot_whole (record { side = 1; item = x; sibling = l } ∷ way) r) (λ _. refl) (λ _. spot_whole (record { side = 0; item = x; sibling = r } ∷ way) l)

    pub spot_ends : (way : List (Turn A)) (t : Tree A) → WayEnds order (spot order way t).1
    spot_ends way Empty = tt
    spot_ends way (Node l x r) =
        by_order_both (order x) (spot order (record { side = 1; item = x; sibling = l } ∷ way) r) (way, Node l x r) (spot order (record { side = 0; item = x; sibling = r } ∷ way) l) (λ s. WayEnds order s.1)
        (λ _. spot_ends (record { side = 1; item = x; sibling = l } ∷ way) r) (λ e. e) (λ _. spot_ends (record { side = 0; item = x; sibling = r } ∷ way) l)

    -- what stands before a place is below what is sought, and what stands behind it is above
    pub record IsBetween (way : List (Turn A)) : Type 0 where
      pub lower : All (λ y. order y ≡ Less) (before way)
      pub higher : All (λ y. order y ≡ Greater) (behind way)

    -- after a turn to the right at `x`, below what is sought, all before the place are still below that and all behind it above
    right_between : (way : List (Turn A)) (l : Tree A) (x : A) (r : Tree A) → IsCutBy order (items (whole way (Node l x r))) → order x ≡ Less → IsBetween way → IsBetween (record { side = 1; item = x; sibling = l } ∷ way)
    right_between way l x r c e b =
        let below = cut_below (before way ++ items l) x (items r ++ behind way) (subst (IsCutBy order) (parted way l x r) c) (λ f. (let g : Less ≡ Greater = sym e ∙ f in cc)) in
        record {
          lower = All-same (λ y. order y ≡ Less) (before way ++ (items l ++ x ∷ [])) ((before way ++ items l) ++ x ∷ []) (sym (append_assoc (before way) (items l) (x ∷ [])))
              (All-push (λ y. order y ≡ Less) (before way ++ items l) x below e);
          higher = b.higher;
        }

    -- after a turn to the left at `x`, above what is sought, all before the place are still below that and all behind it above
    left_between : (way : List (Turn A)) (l : Tree A) (x : A) (r : Tree A) → IsCutBy order (items (whole way (Node l x r))) → order x ≡ Greater → IsBetween way → IsBetween (record { side = 0; item = x; sibling = r } ∷ way)
    left_between way l x r c e b =
        let above = cut_above (before way ++ items l) x (items r ++ behind way) (subst (IsCutBy order) (parted way l x r) c) (λ f. (let g : Greater ≡ Less = sym e ∙ f in cc)) in
        record {
          lower = All-same (λ y. order y ≡ Less) (before way ++ []) (before way) (append-nil (before way)) b.lower;
          higher = All-cons (λ y. order y ≡ Greater) x (items r ++ behind way) e above;
        }

    pub spot_between : (way : List (Turn A)) (t : Tree A) → IsCutBy order (items (whole way t)) → IsBetween way → IsBetween (spot order way t).0
    spot_between way Empty c b = b
    spot_between way (Node l x r) c b =
        by_order_both (order x) (spot order (record { side = 1; item = x; sibling = l } ∷ way) r) (way, Node l x r) (spot order (record { side = 0; item = x; sibling = r } ∷ way) l) (λ s. IsBetween s.0)
        (λ e. spot_between (record { side = 1; item = x; sibling = l } ∷ way) r c (right_between way l x r c e b)) (λ _. b)
        (λ e. spot_between (record { side = 0; item = x; sibling = r } ∷ way) l c (left_between way l x r c e b))

    pub top_between : (t : Tree A) → IsCutBy order (items t) → IsBetween (spot order [] t).0
    top_between t c = spot_between [] t c (record { lower = All-nil (λ y. order y ≡ Less); higher = All-nil (λ y. order y ≡ Greater) })

    -- the items as they stand around the place
    pub spot_items : (t : Tree A) → items t ≡ before (spot order [] t).0 ++ (items (spot order [] t).1 ++ behind (spot order [] t).0)
    spot_items t = ap items (sym (spot_whole [] t)) ∙ whole_items (spot order [] t).0 (spot order [] t).1

    -- a new item stands at its place, and the tree is balanced as before
    pub new_items : (x : A) (t : Tree A) → items (with_new order x t) ≡ before (spot order [] t).0 ++ x ∷ behind (spot order [] t).0
    new_items x t = mended_items (spot order [] t).0 (Node Empty x Empty)

    -- a balanced tree `t` is balanced again after a new item `x` is put where a walk ended at nothing
    pub new_balanced : (x : A) (t : Tree A) → (spot order [] t).1 ≡ Empty → Balanced t → Balanced (with_new order x t)
    new_balanced x t e b =
        (mended_balanced (spot order [] t).0 Empty (Node Empty x Empty) (subst (λ u. Balanced (whole (spot order [] t).0 u)) e (subst Balanced (sym (spot_whole [] t)) b))
        (record { left = lit≤ tt; right = lit≤ tt }, tt, tt) (record { left = lit≤ tt; right = lit≤ tt })).0
