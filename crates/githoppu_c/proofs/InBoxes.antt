-- Sessions that are put into boxes, one by one and in order, stay what they were.
use Rattle.std.proofs.Common.{◌≡◌, ◌++◌, ◌∷◌, ◌∙◌, [], All, List, ap, arith, length, map, refl, subst, sym, ℕ}
use Rattle.std.proofs.lemmas.List.{append-nil, append_assoc, length-map, map-append}
use Rattle.std.proofs.lemmas.List.Elements.{All-cons, All-head, All-tail}
use Rattle.std.specs.Global.{Global}
use Rattle.std_alloc.specs.declared.boxed.Box.{Box}
use Rattle.table_invariant.specs.Running.{Running}
use Rattle.c_sessions.specs.Sessions.{IsOpenSessionOf}
use Rattle.c_sessions.specs.declared.session.Session.{Session}
use Rattle.githoppu_c.specs.Contents.{AreBoxes, IsCallable, IsSessionIn}
use Rattle.githoppu_c.specs.declared.content.AnyHandleState.{AnyHandleState}

-- a box of what a handle holds
abbrev pub Boxed : Type 0
Boxed = Box AnyHandleState Global

-- what stands in a box
abbrev pub value_of : Boxed → AnyHandleState
value_of b = b.value

-- Where one session more is put into a box behind the boxes that are made, the values in the boxes and those of the sessions left are the same list
-- in all as before.
pub moved : {S : Type 0} (any : S → AnyHandleState) (made now : List Boxed) (box : Boxed) (session : S) (rest left : List S) (all : List AnyHandleState) → now ≡ made ++ box ∷ [] → left ≡ session ∷ rest
    → box.value ≡ any session → map value_of made ++ map any left ≡ all → map value_of now ++ map any rest ≡ all
moved any made now box session rest left all pushed taken is before =
    ap (λ bs. map value_of bs ++ map any rest) pushed
    ∙ ap (λ cs. cs ++ map any rest) (map-append value_of made (box ∷ []))
    ∙ append_assoc (map value_of made) (box.value ∷ []) (map any rest)
    ∙ ap (λ v. map value_of made ++ v ∷ map any rest) is
    ∙ ap (λ xs. map value_of made ++ map any xs) (sym taken)
    ∙ before

-- where no session is left, the boxes that are made have all values
pub ended : {S : Type 0} (any : S → AnyHandleState) (made : List Boxed) (rest : List S) (all : List AnyHandleState) → length rest ≡ 0 → map value_of made ++ map any rest ≡ all → map value_of made ≡ all
ended any made [] all none before = sym (append-nil (map value_of made)) ∙ before
ended any made (session ∷ rest) all none before = absurd cc

module _ {S : Type 0} (any : S → AnyHandleState) (from : S → Type 0) (to : AnyHandleState → Type 0) (goes : (s : S) → from s → to (any s)) where
  -- where the boxes have, in order, what `any` makes of the sessions, and `from` holds of each session, `to` holds of what is in each box
  pub each_box : (boxes : List Boxed) (sessions : List S) → map value_of boxes ≡ map any sessions → All from sessions → All (λ (b : Boxed). to b.value) boxes
  each_box [] sessions same all = λ k d below. absurd (omega (arith, below))
  each_box (b ∷ boxes) [] same all = absurd cc
  each_box (b ∷ boxes) (s ∷ sessions) same all =
      let first : b.value ≡ any s = cc in
      let others : map value_of boxes ≡ map any sessions = cc in
      All-cons (λ (x : Boxed). to x.value) b boxes (subst to (sym first) (goes s (All-head from s sessions all))) (each_box boxes sessions others (All-tail from s sessions all))

-- `count` boxes that have, in order, what `any` makes of `count` open sessions of the service `r`, are as `AreBoxes` says
pub as_boxes : {O : Type 0} (any : Session O → AnyHandleState) (r : Running O) (count : ℕ) (callable : (s : Session O) → IsOpenSessionOf r s → IsCallable (any s)) (boxes : List Boxed) (sessions : List (Session O))
    → map value_of boxes ≡ map any sessions → length sessions ≡ count → All (IsOpenSessionOf r) sessions → AreBoxes (IsSessionIn any r) count boxes
as_boxes any r count callable boxes sessions same many opened = record {
  all = sym (length-map boxes value_of) ∙ ap length same ∙ length-map sessions any ∙ many;
  each = each_box any (IsOpenSessionOf r) (λ content. IsSessionIn any r content × IsCallable content) (λ s of. (record { session = s; of = of; is = refl }, callable s of)) boxes sessions same opened;
}
