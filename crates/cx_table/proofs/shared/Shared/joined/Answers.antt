use Rattle.std.proofs.Common.{◌≡◌, ◌∷◌, ◌++◌, [], ℕ, List, Some, length, sym, refl, ap, ◌∙◌, arith, append_assoc}
use Rattle.std.proofs.lemmas.List.{map-append, append-nil}
use Rattle.std.proofs.lemmas.List.Elements.{All-pop, All-weaker}
use Rattle.atomic_table.specs.Table.{Me}
use Rattle.table_invariant.specs.declared.rule.Known.{Known}
use Rattle.cx_table.specs.Remains.{known_by}
use Rattle.table_invariant.specs.Running.{IsSeatOf}
use Rattle.table_invariant.specs.Seats.{Seated}
use Rattle.table_invariant.proofs.Moves.{enters}
use Rattle.cx_table.proofs.shared.Shared.joined.Goals as goal

pub load_new_seat-closing-requires : goal.load_new_seat-closing-requires
load_new_seat-closing-requires g c = (
  omega (arith, c.self.invariant.0.words),
  λ s h homes small. ([], enters _ s h, refl),
)

pub loop-seat-init : goal.loop-seat-init
loop-seat-init g c =
    let me = c.load_new_seat-closing.ensures in record {
      table = me.0 ∙ ap (λ s. s.table) c.self.view_is;
      of = All-weaker (IsSeatOf c.args.self.now) (λ (s : Seated). s.table ≡ c.args.self.now.table) (λ s is. is.table) c.args.seats.items c.requires.of;
      whole = ap (λ m. known_by c.args.seats.items ++ m.0) me.2 ∙ append-nil (known_by c.args.seats.items);
      none = me.1;
    }

pub take_in-requires-clause-seat : goal.take_in-requires-clause-seat
take_in-requires-clause-seat g c = (All-pop (λ (s : Seated). s.table ≡ c.args.self.now.table) _ _ (Some c.in-Some.seat) c.in-Some.ensures.items c.loop-seat.invariant.of).1

pub loop-seat-preserved : goal.loop-seat-preserved
loop-seat-preserved g c =
    let left = c.pop.new.self.items in
    let seat = c.in-Some.seat in
    let me = c.take_in.ensures.1 in record {
      table = c.take_in.ensures.0 ∙ c.loop-seat.invariant.table;
      of = (All-pop (λ (s : Seated). s.table ≡ c.args.self.now.table) _ _ (Some c.in-Some.seat) c.in-Some.ensures.items c.loop-seat.invariant.of).0;
      whole =
          ap (λ m. known_by left ++ m.0) me
          ∙ sym (append_assoc (known_by left) (seat.known ∷ []) c.loop-seat.closing.me.0)
          ∙ ap (λ (ks : List Known). ks ++ c.loop-seat.closing.me.0) (sym (map-append (λ (s : Seated). s.known) left (seat ∷ [])) ∙ ap known_by (sym c.in-Some.ensures.items))
          ∙ c.loop-seat.invariant.whole;
      none = ap (λ m. m.1) me;
    }

nothing : {A : Type 0} (xs : List A) → length xs ≡ 0 → xs ≡ []
nothing [] e = refl
nothing (x ∷ xs) e = absurd (omega arith)

-- all that a seat with no slot knows
known : (m : Me ℕ (List Known)) (rest : List Seated) (ks : List Known) → rest ≡ [] → known_by rest ++ m.0 ≡ ks → m.1 ≡ [] → m ≡ (ks, [])
known m rest ks done whole none =
    ap (λ k. (m.0, k)) none ∙ ap (λ (held : List Known). (held, [])) (ap (λ r. known_by r ++ m.0) (sym done) ∙ whole)

pub returns : goal.returns
returns g c = (
  c.loop-seat.invariant.table,
  known c.loop-seat.closing.me c.loop-seat.seats.items (known_by c.args.seats.items) (nothing c.loop-seat.seats.items (sym c.loop-seat.seats.ok.0 ∙ c.in_default.ensures.cases.0)) c.loop-seat.invariant.whole c.loop-seat.invariant.none,
)
