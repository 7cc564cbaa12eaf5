-- Traces are read by their grammar, line by line.
use Rattle.std.specs.Prelude.{codes, option_and_then, All, is_some}
use Rattle.std.specs.Option.{option_map, ok_or}
use Rattle.std.specs.Fmt.{decimal}
use Rattle.std.proofs.Common.{◌≡◌, ℕ, ◌^◌, ◌<◌, ◌≤◌, Bool, true, false, not, cond, leb, ltb, ◌&&◌, List, [], ◌∷◌, ◌++◌, length, Option, None, Some, Ok, Err, refl, sym, ap, subst, ◌∙◌, append_assoc, arith, inl, inr}
use Rattle.std.proofs.lemmas.Bool.{and_parts, cases_Bool, leb-true, leb-false, ltb-true, le-leb, lt-ltb}
use Rattle.std.proofs.lemmas.List.{append-nil}
use Rattle.std.proofs.lemmas.List.Elements.{All-nil, All-cons}
use Rattle.std.proofs.lemmas.Option.{cond_some, none-some, option_and_then_some, same_Some}
use Rattle.cx_base.specs.Store.{IsKey}
use Rattle.cx_core.specs.declared.kinds.Kind.{Kind}
use Rattle.cx_core.specs.declared.kinds.Kind.TheVariants.{WriteCell, Link, Look, ReadCell, LoadFree, TryExclusive, TryShared, BackOff, Downgrade, ReleaseExclusive, LoadWord, StoreWord, Persist, LoadCur, Publish, Raise, Retire, Protect, Confirm, Unprotect, CloseLow, Scan, OpenFree, WriteSet, Offer, LoadOffer, ReadSet, NoteGap, LoadGap}
use Rattle.doc_model.specs.WordParts.{is_key}
use Rattle.doc_model.specs.Words.{op_words}
use Rattle.doc_model.specs.declared.operations.Op.{Op}
use Rattle.doc_model.specs.declared.operations.Op.TheVariants.{Put, Del, Add, Get, Next, Count, PutIf, Rev}
use Rattle.doc_model.proofs.WordTexts.{key_from_test, key_passes}
use Rattle.plain_text.specs.LineGrammar.{ReadsLines}
use Rattle.plain_text.specs.Number.{number_of}
use Rattle.plain_text.specs.Words.{first_word, rest_of, is_word}
use Rattle.plain_text.proofs.LineByLine.{no_value}
use Rattle.plain_text.proofs.Numerals.{number_of-decimal, decimal-number_of}
use Rattle.plain_text.proofs.WordCuts.{decimal_unspaced, named, spaced, unspaced, word_alone, word_cut, word_is}
use Rattle.trace_text.specs.Commands.{AsksReading, keyed_of, next_of, reading_by, reading_of}
use Rattle.trace_text.specs.Kinds.{EndsKindLine, IsKindText, kind_name, kind_numbers, kind_with_one, kind_with_three, kind_with_two, kind_without, numbered, numbers_text, with_first, with_second, with_third}
use Rattle.trace_text.specs.Reading.{below, caller_number_of, crash_line_of, event_of, trace_head_behind, trace_head_of, trace_head_within, judged_trace, kind_by, kind_of, load_behind, load_of, marked, place_in_text, raise_behind, raise_of, read_behind, what_behind, what_of, with_head, with_step}
use Rattle.trace_text.specs.Reasons.{trace_reason_for}
use Rattle.trace_text.specs.Traces.{AddsTraceLine, IsTraceHeadLine, SaysTraceLine, trace_grammar}
use Rattle.trace_text.specs.declared.trace.TraceLines.{TraceLines}
use Rattle.trace_text.specs.declared.trace.TraceLines.TheVariants.{Nothing, Begun}
use Rattle.trace_text.specs.declared.trace.TraceReason.{TraceReason}
use Rattle.trace_text.specs.declared.trace.TraceReason.TheVariants as reasons
use Rattle.trace_text.specs.declared.trace.TraceWhat.{TraceWhat}
use Rattle.trace_text.specs.declared.trace.TraceWhat.TheVariants.{Event, Crash}

abbrev Fit : ℕ → Type 0
Fit n = n < 2 ^ 64

-- what stands behind the first word, with its space
abbrev rest_text : Option (List ℕ) → List ℕ
rest_text None = []
rest_text (Some text) = 32 ∷ text

by_rest : (text : List ℕ) (rest : Option (List ℕ)) → rest_of text ≡ rest → text ≡ first_word text ++ rest_text rest
by_rest text None e = unspaced text e ∙ sym (append-nil (first_word text))
by_rest text (Some rest) e = spaced text rest e

-- a text whose first word is a number
numbered_text : (text : List ℕ) (n : ℕ) → number_of (first_word text) ≡ Some n → text ≡ decimal n ++ rest_text (rest_of text)
numbered_text text n e = by_rest text (rest_of text) refl ∙ ap (λ (word : List ℕ). word ++ rest_text (rest_of text)) (decimal-number_of (first_word text) n e).0

named_first : {A : Type 0} (b : Bool) (o : Option A) (y : A) → cond b o None ≡ Some y → (b ≡ true) × (o ≡ Some y)
named_first true o y e = (refl, e)
named_first false o y e = absurd cc

mapped : {A B : Type 0} (f : A → B) (o : Option A) (y : B) → option_map f o ≡ Some y → (x : A) × (o ≡ Some x) × (f x ≡ y)
mapped f None y e = absurd (none-some y e)
mapped f (Some x) y e = (x, refl, same_Some (f x) y e)

-- ---- what is read from a first line, and from a crash line, is what that line says

within_is : (callers lines : ℕ) (head : ℕ × ℕ) → trace_head_within callers lines ≡ Some head → IsTraceHeadLine head (codes "trace " ++ (decimal callers ++ (codes " " ++ decimal lines)))
within_is callers lines head e =
    let kept = cond_some (leb 1 callers && (leb callers 8 && (leb 64 lines && leb lines 16384))) (callers, lines) head e in
    let some = and_parts (leb 1 callers) (leb callers 8 && (leb 64 lines && leb lines 16384)) kept.0 in
    let few = and_parts (leb callers 8) (leb 64 lines && leb lines 16384) some.1 in
    let both = and_parts (leb 64 lines) (leb lines 16384) few.1 in
    subst (λ (h : ℕ × ℕ). IsTraceHeadLine h (codes "trace " ++ (decimal callers ++ (codes " " ++ decimal lines)))) kept.1 (record {
      spelled = refl;
      some = leb-true 1 callers some.0;
      few = leb-true callers 8 few.0;
      enough = leb-true 64 lines both.0;
      small = leb-true lines 16384 both.1;
    })

behind_is : (text : List ℕ) (head : ℕ × ℕ) → trace_head_behind text ≡ Some head → IsTraceHeadLine head (codes "trace " ++ text)
unfolding trace_head_behind
behind_is text head e =
    option_and_then_some (λ callers. option_and_then (trace_head_within callers) (option_and_then number_of (rest_of text))) (number_of (first_word text)) head e
    (λ callers found others. option_and_then_some (trace_head_within callers) (option_and_then number_of (rest_of text)) head others
    (λ lines found_lines kept. option_and_then_some number_of (rest_of text) lines found_lines (λ rest behind number.
    let spelled : text ≡ decimal callers ++ 32 ∷ decimal lines =
    spaced text rest behind ∙ ap (λ (word : List ℕ). word ++ 32 ∷ rest) (decimal-number_of (first_word text) callers found).0 ∙ ap (λ (t : List ℕ). decimal callers ++ 32 ∷ t) (decimal-number_of rest lines number).0 in
    subst (λ (t : List ℕ). IsTraceHeadLine head (codes "trace " ++ t)) (sym spelled) (within_is callers lines head kept))))

pub trace_head_is : (line : List ℕ) (head : ℕ × ℕ) → trace_head_of line ≡ Some head → IsTraceHeadLine head line
unfolding trace_head_of
trace_head_is line head e =
    let kept = named_first (is_word (codes "trace") (first_word line)) (option_and_then trace_head_behind (rest_of line)) head e in
    option_and_then_some trace_head_behind (rest_of line) head kept.1
    (λ rest behind is. subst (IsTraceHeadLine head) (sym (named (codes "trace") line rest kept.0 behind)) (behind_is rest head is))

place_is : (text : List ℕ) (place : ℕ) → place_in_text text ≡ Some place → (text ≡ codes "place " ++ decimal place) × Fit place
unfolding place_in_text
place_is text place e =
    let kept = named_first (is_word (codes "place") (first_word text)) (option_and_then number_of (rest_of text)) place e in
    option_and_then_some number_of (rest_of text) place kept.1 (λ rest behind is.
    let number = decimal-number_of rest place is in
    (named (codes "place") text rest kept.0 behind ∙ ap (λ (t : List ℕ). codes "place " ++ t) number.0, number.1))

crash_is : (callers : ℕ) (text : List ℕ) (what : TraceWhat) → crash_line_of text ≡ Some what → SaysTraceLine callers what (codes "crash " ++ text)
unfolding crash_line_of
crash_is callers text what e =
    option_and_then_some (λ choice. option_and_then (λ place. Some (Crash choice place)) (option_and_then place_in_text (rest_of text))) (number_of (first_word text)) what e
    (λ choice found others. option_and_then_some (λ place. Some (Crash choice place)) (option_and_then place_in_text (rest_of text)) what others
    (λ place found_place both. option_and_then_some place_in_text (rest_of text) place found_place (λ rest behind is.
    let one = decimal-number_of (first_word text) choice found in
    let two = place_is rest place is in
    let spelled : text ≡ decimal choice ++ (codes " place " ++ decimal place) =
    spaced text rest behind ∙ ap (λ (word : List ℕ). word ++ 32 ∷ rest) one.0 ∙ ap (λ (t : List ℕ). decimal choice ++ 32 ∷ t) two.0 in
    subst (λ (w : TraceWhat). SaysTraceLine callers w (codes "crash " ++ text)) (same_Some (Crash choice place) what both)
    (ap (λ (t : List ℕ). codes "crash " ++ t) spelled, one.1, two.1))))

-- ---- what is read from a name and numbers is the kind of step that has them

-- the kind of this name, with these numbers and nothing behind them
abbrev IsRow : List ℕ → List ℕ → Kind → Type 0
IsRow name ns kind = (name ≡ kind_name kind) × (kind_numbers kind ≡ ns) × EndsKindLine kind []

row : (name found : List ℕ) (kind k : Kind) (ns : List ℕ) (others : Option Kind) → IsRow name ns kind → (others ≡ Some k → IsRow found ns k)
    → cond (is_word name found) (Some kind) others ≡ Some k → IsRow found ns k
row name found kind k ns others is later e =
    elim (cases_Bool (is_word name found)) [
      | inl hit ↦
          let same : kind ≡ k = let h : Some kind ≡ Some k = rw hit at e in same_Some kind k h in
          let here : IsRow found ns kind = (word_is name found hit ∙ is.0, is.1, is.2) in
          subst (IsRow found ns) same here
      | inr miss ↦ later (rw miss at e)
    ]

none_left : (found : List ℕ) (ns : List ℕ) (k : Kind) → None ≡ Some k → IsRow found ns k
none_left found ns k e = absurd (none-some k e)

without_is : (name : List ℕ) (k : Kind) → kind_without name ≡ Some k → IsRow name [] k
unfolding kind_without
without_is name k e =
    row (codes "load_free") name LoadFree k [] _ (refl, refl, refl)
    (row (codes "load_cur") name LoadCur k [] _ (refl, refl, refl)
    (row (codes "publish") name Publish k [] _ (refl, refl, refl)
    (row (codes "retire") name Retire k [] _ (refl, refl, refl)
    (row (codes "confirm") name Confirm k [] _ (refl, refl, refl)
    (row (codes "unprotect") name Unprotect k [] _ (refl, refl, refl)
    (row (codes "open_free") name OpenFree k [] None (refl, refl, refl) (none_left name [] k))))))) e

one_is : (name : List ℕ) (a : ℕ) (k : Kind) → kind_with_one name a ≡ Some k → IsRow name (a ∷ []) k
unfolding kind_with_one
one_is name a k e =
    row (codes "link") name (Link a) k (a ∷ []) _ (refl, refl, refl)
    (row (codes "look") name (Look a) k (a ∷ []) _ (refl, refl, refl)
    (row (codes "try_exclusive") name (TryExclusive a) k (a ∷ []) _ (refl, refl, refl)
    (row (codes "try_shared") name (TryShared a) k (a ∷ []) _ (refl, refl, refl)
    (row (codes "back_off") name (BackOff a) k (a ∷ []) _ (refl, refl, refl)
    (row (codes "downgrade") name (Downgrade a) k (a ∷ []) _ (refl, refl, refl)
    (row (codes "release_exclusive") name (ReleaseExclusive a) k (a ∷ []) _ (refl, refl, refl)
    (row (codes "protect") name (Protect a) k (a ∷ []) _ (refl, refl, refl)
    (row (codes "close_low") name (CloseLow a) k (a ∷ []) _ (refl, refl, refl)
    (row (codes "scan") name (Scan a) k (a ∷ []) _ (refl, refl, refl)
    (row (codes "offer") name (Offer a) k (a ∷ []) None (refl, refl, refl) (none_left name (a ∷ []) k))))))))))) e

two_is : (name : List ℕ) (a b : ℕ) (k : Kind) → kind_with_two name a b ≡ Some k → IsRow name (a ∷ b ∷ []) k
unfolding kind_with_two
two_is name a b k e =
    row (codes "persist") name (Persist a b) k (a ∷ b ∷ []) _ (refl, refl, refl)
    (row (codes "load_offer") name (LoadOffer a b) k (a ∷ b ∷ []) _ (refl, refl, refl)
    (row (codes "load_gap") name (LoadGap a b) k (a ∷ b ∷ []) None (refl, refl, refl) (none_left name (a ∷ b ∷ []) k))) e

three_is : (name : List ℕ) (a b c : ℕ) (k : Kind) → kind_with_three name a b c ≡ Some k → IsRow name (a ∷ b ∷ c ∷ []) k
unfolding kind_with_three
three_is name a b c k e =
    row (codes "write_cell") name (WriteCell a b c) k (a ∷ b ∷ c ∷ []) _ (refl, refl, refl)
    (row (codes "read_cell") name (ReadCell a b c) k (a ∷ b ∷ c ∷ []) _ (refl, refl, refl)
    (row (codes "store_word") name (StoreWord a b c) k (a ∷ b ∷ c ∷ []) _ (refl, refl, refl)
    (row (codes "write_set") name (WriteSet a b c) k (a ∷ b ∷ c ∷ []) _ (refl, refl, refl)
    (row (codes "read_set") name (ReadSet a b c) k (a ∷ b ∷ c ∷ []) _ (refl, refl, refl)
    (row (codes "note_gap") name (NoteGap a b c) k (a ∷ b ∷ c ∷ []) None (refl, refl, refl) (none_left name (a ∷ b ∷ c ∷ []) k)))))) e

-- the kind has this name, and its numbers are `front` and behind them those of which `here` is the text
record Numbered (name front here : List ℕ) (kind : Kind) : Type 0 where
  ns : List ℕ
  row_is : IsRow name (front ++ ns) kind
  spelled : here ≡ numbers_text ns
  fits : All Fit ns

third_is : (name : List ℕ) (a b : ℕ) (rest : Option (List ℕ)) (k : Kind) → with_third name a b rest ≡ Some k → Numbered name (a ∷ b ∷ []) (rest_text rest) k
unfolding with_third
third_is name a b None k e = record { ns = []; row_is = two_is name a b k e; spelled = refl; fits = All-nil Fit }
third_is name a b (Some text) k e =
    option_and_then_some (kind_with_three name a b) (number_of text) k e (λ c found kind.
    let number = decimal-number_of text c found in
    record {
      ns = c ∷ [];
      row_is = three_is name a b c k kind;
      spelled = ap (λ (t : List ℕ). 32 ∷ t) (number.0 ∙ sym (append-nil (decimal c)));
      fits = All-cons Fit c [] number.1 (All-nil Fit);
    })

second_is : (name : List ℕ) (a : ℕ) (rest : Option (List ℕ)) (k : Kind) → with_second name a rest ≡ Some k → Numbered name (a ∷ []) (rest_text rest) k
unfolding with_second
second_is name a None k e = record { ns = []; row_is = one_is name a k e; spelled = refl; fits = All-nil Fit }
second_is name a (Some text) k e =
    option_and_then_some (λ b. with_third name a b (rest_of text)) (number_of (first_word text)) k e (λ b found others.
    let more = third_is name a b (rest_of text) k others in
    record {
      ns = b ∷ more.ns;
      row_is = more.row_is;
      spelled = ap (λ (t : List ℕ). 32 ∷ t) (numbered_text text b found ∙ ap (λ (t : List ℕ). decimal b ++ t) more.spelled);
      fits = All-cons Fit b more.ns (decimal-number_of (first_word text) b found).1 more.fits;
    })

first_is : (name text : List ℕ) (k : Kind) → with_first name text ≡ Some k → Numbered name [] (32 ∷ text) k
unfolding with_first
first_is name text k e =
    option_and_then_some (λ a. with_second name a (rest_of text)) (number_of (first_word text)) k e (λ a found others.
    let more = second_is name a (rest_of text) k others in
    record {
      ns = a ∷ more.ns;
      row_is = more.row_is;
      spelled = ap (λ (t : List ℕ). 32 ∷ t) (numbered_text text a found ∙ ap (λ (t : List ℕ). decimal a ++ t) more.spelled);
      fits = All-cons Fit a more.ns (decimal-number_of (first_word text) a found).1 more.fits;
    })

numbered_is : (name : List ℕ) (rest : Option (List ℕ)) (k : Kind) → numbered name rest ≡ Some k → Numbered name [] (rest_text rest) k
numbered_is name None k e = record { ns = []; row_is = without_is name k e; spelled = refl; fits = All-nil Fit }
numbered_is name (Some text) k e = first_is name text k e

-- ---- a text from which a kind of step is read is a text of that kind

-- the text of a kind, by its parts
as_kind : (kind : Kind) (text name numbers end_ : List ℕ) (ns : List ℕ) → text ≡ name ++ numbers → name ≡ kind_name kind → kind_numbers kind ≡ ns → numbers ≡ numbers_text ns ++ end_ → EndsKindLine kind end_ → All Fit ns → IsKindText kind text
as_kind kind text name numbers end_ ns cut is are spelled ends fits = record {
  end_ = end_;
  spelled = cut ∙ ap (λ (t : List ℕ). t ++ numbers) is ∙ ap (λ (t : List ℕ). kind_name kind ++ t) (spelled ∙ ap (λ (m : List ℕ). numbers_text m ++ end_) (sym are));
  ends = ends;
  fits = subst (All Fit) (sym are) fits;
}

-- numbers in front of an end
flat_one : (a : ℕ) (end_ : List ℕ) → numbers_text (a ∷ []) ++ end_ ≡ 32 ∷ (decimal a ++ end_)
flat_one a end_ = ap (λ (t : List ℕ). 32 ∷ (t ++ end_)) (append-nil (decimal a))

flat_two : (a b : ℕ) (end_ : List ℕ) → numbers_text (a ∷ b ∷ []) ++ end_ ≡ 32 ∷ (decimal a ++ 32 ∷ (decimal b ++ end_))
flat_two a b end_ =
    ap (λ (t : List ℕ). 32 ∷ t) (append_assoc (decimal a) (numbers_text (b ∷ [])) end_) ∙ ap (λ (t : List ℕ). 32 ∷ (decimal a ++ t)) (flat_one b end_)

flat_three : (a b c : ℕ) (end_ : List ℕ) → numbers_text (a ∷ b ∷ c ∷ []) ++ end_ ≡ 32 ∷ (decimal a ++ 32 ∷ (decimal b ++ 32 ∷ (decimal c ++ end_)))
flat_three a b c end_ =
    ap (λ (t : List ℕ). 32 ∷ t) (append_assoc (decimal a) (numbers_text (b ∷ c ∷ [])) end_) ∙ ap (λ (t : List ℕ). 32 ∷ (decimal a ++ t)) (flat_two b c end_)

keyed_is : (make : List ℕ → Op) (verb : List ℕ) (rest : Option (List ℕ)) (op : Op) → ((key : List ℕ) → IsKey key → AsksReading (make key) (verb ++ 32 ∷ key))
    → keyed_of make rest ≡ Some op → AsksReading op (verb ++ rest_text rest)
keyed_is make verb None op asks e = absurd (none-some op e)
keyed_is make verb (Some key) op asks e =
    let is = cond_some (is_key key) (make key) op e in
    subst (λ (o : Op). AsksReading o (verb ++ 32 ∷ key)) is.1 (asks key (key_from_test key is.0))

keyed_next : (key : List ℕ) → IsKey key → AsksReading (Next key) (codes "next " ++ key)
keyed_next [] k = let some : 1 ≤ 0 = k.some in absurd (omega arith)
keyed_next (b ∷ key) k = (refl, k)

next_is : (rest : Option (List ℕ)) (op : Op) → next_of rest ≡ Some op → AsksReading op (codes "next" ++ rest_text rest)
next_is None op e = subst (λ (o : Op). AsksReading o (codes "next")) (same_Some (Next []) op e) refl
next_is (Some key) op e =
    let is = cond_some (is_key key) (Next key) op e in
    subst (λ (o : Op). AsksReading o (codes "next " ++ key)) is.1 (keyed_next key (key_from_test key is.0))

count_is : (b : Bool) (rest : Option (List ℕ)) (op : Op) → cond (b && not (is_some rest)) (Some Count) None ≡ Some op → (b ≡ true) × AsksReading op (codes "count" ++ rest_text rest)
count_is true None op e = (refl, subst (λ (o : Op). AsksReading o (codes "count")) (same_Some Count op e) refl)
count_is true (Some text) op e = absurd (none-some op e)
count_is false rest op e = absurd (none-some op e)

reading_by_is : (verb : List ℕ) (rest : Option (List ℕ)) (op : Op) → reading_by verb rest ≡ Some op → AsksReading op (verb ++ rest_text rest)
unfolding reading_by
reading_by_is verb rest op e =
    elim (cases_Bool (is_word (codes "get") verb)) [
      | inl hit ↦ subst (λ (v : List ℕ). AsksReading op (v ++ rest_text rest)) (sym (word_is (codes "get") verb hit)) (keyed_is Get (codes "get") rest op (λ key k. (refl, k)) (rw hit at e))
      | inr no_get ↦
          elim (cases_Bool (is_word (codes "rev") verb)) [
            | inl hit ↦ subst (λ (v : List ℕ). AsksReading op (v ++ rest_text rest)) (sym (word_is (codes "rev") verb hit)) (keyed_is Rev (codes "rev") rest op (λ key k. (refl, k)) (rw (no_get, hit) at e))
            | inr no_rev ↦
                elim (cases_Bool (is_word (codes "next") verb)) [
                  | inl hit ↦ subst (λ (v : List ℕ). AsksReading op (v ++ rest_text rest)) (sym (word_is (codes "next") verb hit)) (next_is rest op (rw (no_get, no_rev, hit) at e))
                  | inr no_next ↦
                      let is = count_is (is_word (codes "count") verb) rest op (rw (no_get, no_rev, no_next) at e) in
                      subst (λ (v : List ℕ). AsksReading op (v ++ rest_text rest)) (sym (word_is (codes "count") verb is.0)) is.1
                ]
          ]
    ]

reading_is : (text : List ℕ) (op : Op) → reading_of text ≡ Some op → AsksReading op text
unfolding reading_of
reading_is text op e = subst (AsksReading op) (sym (by_rest text (rest_of text) refl)) (reading_by_is (first_word text) (rest_of text) op e)

read_is : (code : ℕ) (word : List ℕ) (rest : Option (List ℕ)) (kind : Kind) → Fit code → read_behind code word rest ≡ Some kind
    → IsKindText kind (codes "raise" ++ 32 ∷ (decimal code ++ 32 ∷ (word ++ rest_text rest)))
read_is code word None kind fits e = absurd (none-some kind e)
read_is code word (Some command) kind fits e =
    let kept = named_first (is_word (codes "read") word) (option_map (λ op. Raise code (Some (op_words op))) (reading_of command)) kind e in
    let op = mapped (λ op. Raise code (Some (op_words op))) (reading_of command) kind kept.1 in
    let end_ = codes " read " ++ command in
    subst (λ (k : Kind). IsKindText k (codes "raise" ++ 32 ∷ (decimal code ++ 32 ∷ (word ++ 32 ∷ command)))) op.2
    (as_kind (Raise code (Some (op_words op.0))) _ (codes "raise") (32 ∷ (decimal code ++ 32 ∷ (word ++ 32 ∷ command))) end_ (code ∷ []) refl refl refl
    (ap (λ (w : List ℕ). 32 ∷ (decimal code ++ 32 ∷ (w ++ 32 ∷ command))) (word_is (codes "read") word kept.0) ∙ sym (flat_one code end_))
    (op.0, command, reading_is command op.0 op.1, refl, refl) (All-cons Fit code [] fits (All-nil Fit)))

raise_is : (rest : Option (List ℕ)) (kind : Kind) → raise_of rest ≡ Some kind → IsKindText kind (codes "raise" ++ rest_text rest)
unfolding raise_of raise_behind
raise_is None kind e = absurd (none-some kind e)
raise_is (Some text) kind e =
    option_and_then_some (λ code. raise_behind code (rest_of text)) (number_of (first_word text)) kind e (λ code found others.
    let spelled = numbered_text text code found in
    subst (λ (t : List ℕ). IsKindText kind (codes "raise" ++ 32 ∷ t)) (sym spelled) (behind code (rest_of text) (decimal-number_of (first_word text) code found).1 others))
  where
    behind : (code : ℕ) (rest : Option (List ℕ)) → Fit code → raise_behind code rest ≡ Some kind → IsKindText kind (codes "raise" ++ 32 ∷ (decimal code ++ rest_text rest))
    behind code None fits e =
        subst (λ (k : Kind). IsKindText k (codes "raise" ++ 32 ∷ (decimal code ++ []))) (same_Some (Raise code None) kind e)
        (as_kind (Raise code None) _ (codes "raise") (32 ∷ (decimal code ++ [])) [] (code ∷ []) refl refl refl (sym (flat_one code [])) refl (All-cons Fit code [] fits (All-nil Fit)))
    behind code (Some text) fits e =
        subst (λ (t : List ℕ). IsKindText kind (codes "raise" ++ 32 ∷ (decimal code ++ 32 ∷ t))) (sym (by_rest text (rest_of text) refl))
        (read_is code (first_word text) (rest_of text) kind fits e)

mark_is : (r i : ℕ) (mark : Option (List ℕ)) (kind : Kind) → Fit r → Fit i → marked r i mark ≡ Some kind
    → IsKindText kind (codes "load_word" ++ 32 ∷ (decimal r ++ 32 ∷ (decimal i ++ rest_text mark)))
mark_is r i None kind fits fits_too e =
    subst (λ (k : Kind). IsKindText k (codes "load_word" ++ 32 ∷ (decimal r ++ 32 ∷ (decimal i ++ [])))) (same_Some (LoadWord r i false) kind e)
    (as_kind (LoadWord r i false) _ (codes "load_word") (32 ∷ (decimal r ++ 32 ∷ (decimal i ++ []))) [] (r ∷ i ∷ []) refl refl refl (sym (flat_two r i [])) refl
    (All-cons Fit r (i ∷ []) fits (All-cons Fit i [] fits_too (All-nil Fit))))
mark_is r i (Some word) kind fits fits_too e =
    let is = cond_some (is_word (codes "refused") word) (LoadWord r i true) kind e in
    subst (λ (k : Kind). IsKindText k (codes "load_word" ++ 32 ∷ (decimal r ++ 32 ∷ (decimal i ++ 32 ∷ word)))) is.1
    (as_kind (LoadWord r i true) _ (codes "load_word") (32 ∷ (decimal r ++ 32 ∷ (decimal i ++ 32 ∷ word))) (codes " refused") (r ∷ i ∷ []) refl refl refl
    (ap (λ (w : List ℕ). 32 ∷ (decimal r ++ 32 ∷ (decimal i ++ 32 ∷ w))) (word_is (codes "refused") word is.0) ∙ sym (flat_two r i (codes " refused"))) refl
    (All-cons Fit r (i ∷ []) fits (All-cons Fit i [] fits_too (All-nil Fit))))

load_is : (rest : Option (List ℕ)) (kind : Kind) → load_of rest ≡ Some kind → IsKindText kind (codes "load_word" ++ rest_text rest)
unfolding load_of load_behind
load_is None kind e = absurd (none-some kind e)
load_is (Some text) kind e =
    option_and_then_some (λ r. load_behind r (rest_of text)) (number_of (first_word text)) kind e (λ r found others.
    subst (λ (t : List ℕ). IsKindText kind (codes "load_word" ++ 32 ∷ t)) (sym (numbered_text text r found)) (behind r (rest_of text) (decimal-number_of (first_word text) r found).1 others))
  where
    behind : (r : ℕ) (rest : Option (List ℕ)) → Fit r → load_behind r rest ≡ Some kind → IsKindText kind (codes "load_word" ++ 32 ∷ (decimal r ++ rest_text rest))
    behind r None fits e = absurd (none-some kind e)
    behind r (Some text) fits e =
        option_and_then_some (λ i. marked r i (rest_of text)) (number_of (first_word text)) kind e (λ i found others.
        subst (λ (t : List ℕ). IsKindText kind (codes "load_word" ++ 32 ∷ (decimal r ++ 32 ∷ t))) (sym (numbered_text text i found))
        (mark_is r i (rest_of text) kind fits (decimal-number_of (first_word text) i found).1 others))

kind_by_is : (name : List ℕ) (rest : Option (List ℕ)) (kind : Kind) → kind_by name rest ≡ Some kind → IsKindText kind (name ++ rest_text rest)
unfolding kind_by
kind_by_is name rest kind e =
    elim (cases_Bool (is_word (codes "load_word") name)) [
      | inl hit ↦ subst (λ (n : List ℕ). IsKindText kind (n ++ rest_text rest)) (sym (word_is (codes "load_word") name hit)) (load_is rest kind (rw hit at e))
      | inr miss ↦
          elim (cases_Bool (is_word (codes "raise") name)) [
            | inl hit ↦ subst (λ (n : List ℕ). IsKindText kind (n ++ rest_text rest)) (sym (word_is (codes "raise") name hit)) (raise_is rest kind (rw (miss, hit) at e))
            | inr miss_too ↦
                let is = numbered_is name rest kind (rw (miss, miss_too) at e) in
                as_kind kind _ name (rest_text rest) [] is.ns refl is.row_is.0 is.row_is.1 (is.spelled ∙ sym (append-nil (numbers_text is.ns))) is.row_is.2 is.fits
          ]
    ]

kind_is : (text : List ℕ) (kind : Kind) → kind_of text ≡ Some kind → IsKindText kind text
unfolding kind_of
kind_is text kind e = subst (IsKindText kind) (sym (by_rest text (rest_of text) refl)) (kind_by_is (first_word text) (rest_of text) kind e)

-- ---- what is read from a line behind the first is what that line says

event_is : (callers : ℕ) (word text : List ℕ) (caller : Option ℕ) (what : TraceWhat) → caller_number_of callers word ≡ caller → event_of caller text ≡ Some what
    → SaysTraceLine callers what (word ++ 32 ∷ text)
unfolding caller_number_of
event_is callers word text None what is e = absurd (none-some what e)
event_is callers word text (Some caller) what is e =
    let kind = mapped (λ kind. Event (record { caller = caller; kind = kind })) (kind_of text) what e in
    option_and_then_some (below callers) (number_of word) caller is (λ number found kept.
    let small = cond_some (ltb number callers) number caller kept in
    subst (λ (w : TraceWhat). SaysTraceLine callers w (word ++ 32 ∷ text)) kind.2 (
      text,
      kind_is text kind.0 kind.1,
      ap (λ (w : List ℕ). w ++ 32 ∷ text) ((decimal-number_of word number found).0 ∙ ap decimal small.1),
      subst Fit small.1 (decimal-number_of word number found).1,
      subst (λ n. n < callers) small.1 (ltb-true number callers small.0),
    ))

pub what_is : (callers : ℕ) (line : List ℕ) (what : TraceWhat) → what_of callers line ≡ Some what → SaysTraceLine callers what line
unfolding what_of what_behind
what_is callers line what e =
    option_and_then_some (what_behind callers (first_word line)) (rest_of line) what e (λ text behind is.
    subst (SaysTraceLine callers what) (sym (spaced line text behind)) (elim (cases_Bool (is_word (codes "crash") (first_word line))) [
      | inl hit ↦ subst (λ (w : List ℕ). SaysTraceLine callers what (w ++ 32 ∷ text)) (sym (word_is (codes "crash") (first_word line) hit)) (crash_is callers text what (rw hit at is))
      | inr miss ↦ event_is callers (first_word line) text (caller_number_of callers (first_word line)) what refl (rw miss at is)
    ]))

-- ---- what a line says is what is read from that line

head_again : (line : List ℕ) (head : ℕ × ℕ) → IsTraceHeadLine head line → trace_head_of line ≡ Some head
unfolding trace_head_of trace_head_behind
head_again line head is =
    let fits : head.0 < 2 ^ 64 = omega (arith, is.few) in
    let fits_too : head.1 < 2 ^ 64 = omega (arith, is.small) in
    let cut = word_cut (decimal head.0) (decimal head.1) (decimal_unspaced head.0 fits) in
    rw (
      is.spelled,
      cut.0,
      cut.1,
      number_of-decimal head.0 fits,
      number_of-decimal head.1 fits_too,
      le-leb 1 head.0 is.some,
      le-leb head.0 8 is.few,
      le-leb 64 head.1 is.enough,
      le-leb head.1 16384 is.small,
    ) refl

crash_again : (choice place : ℕ) → Fit choice → Fit place → crash_line_of (decimal choice ++ (codes " place " ++ decimal place)) ≡ Some (Crash choice place)
unfolding crash_line_of place_in_text
crash_again choice place fits fits_too =
    let cut = word_cut (decimal choice) (codes "place " ++ decimal place) (decimal_unspaced choice fits) in
    rw (cut.0, cut.1, number_of-decimal choice fits, number_of-decimal place fits_too) refl

-- a name with the text of one number, of two or of three is read as the kind of that name with these numbers
one_again : (name : List ℕ) (a : ℕ) → Fit a → with_first name (decimal a) ≡ kind_with_one name a
unfolding with_first with_second
one_again name a fits = let one = word_alone (decimal a) (decimal_unspaced a fits) in rw (one.0, one.1, number_of-decimal a fits) refl

two_again : (name : List ℕ) (a b : ℕ) → Fit a → Fit b → with_first name (decimal a ++ 32 ∷ decimal b) ≡ kind_with_two name a b
unfolding with_first with_second with_third
two_again name a b fits fits_too =
    let cut = word_cut (decimal a) (decimal b) (decimal_unspaced a fits) in
    let one = word_alone (decimal b) (decimal_unspaced b fits_too) in
    rw (cut.0, cut.1, number_of-decimal a fits, one.0, one.1, number_of-decimal b fits_too) refl

three_again : (name : List ℕ) (a b c : ℕ) → Fit a → Fit b → Fit c → with_first name (decimal a ++ 32 ∷ (decimal b ++ 32 ∷ decimal c)) ≡ kind_with_three name a b c
unfolding with_first with_second with_third
three_again name a b c fits fits_too fit_all =
    let cut = word_cut (decimal a) (decimal b ++ 32 ∷ decimal c) (decimal_unspaced a fits) in
    let next = word_cut (decimal b) (decimal c) (decimal_unspaced b fits_too) in
    rw (cut.0, cut.1, number_of-decimal a fits, next.0, next.1, number_of-decimal b fits_too, number_of-decimal c fit_all) refl

-- a text of a name and numbers with nothing behind them is spelled by these alone
as_none : (name text end_ : List ℕ) → text ≡ name ++ (numbers_text [] ++ end_) → end_ ≡ [] → text ≡ name
as_none name text end_ spelled ends = spelled ∙ ap (λ (t : List ℕ). name ++ t) ends ∙ append-nil name

as_one : (name text end_ : List ℕ) (a : ℕ) → text ≡ name ++ (numbers_text (a ∷ []) ++ end_) → end_ ≡ [] → text ≡ name ++ 32 ∷ decimal a
as_one name text end_ a spelled ends = spelled ∙ ap (λ (t : List ℕ). name ++ t) (flat_one a end_ ∙ ap (λ (t : List ℕ). 32 ∷ (decimal a ++ t)) ends ∙ ap (λ (t : List ℕ). 32 ∷ t) (append-nil (decimal a)))

as_two : (name text end_ : List ℕ) (a b : ℕ) → text ≡ name ++ (numbers_text (a ∷ b ∷ []) ++ end_) → end_ ≡ [] → text ≡ name ++ 32 ∷ (decimal a ++ 32 ∷ decimal b)
as_two name text end_ a b spelled ends =
    spelled ∙ ap (λ (t : List ℕ). name ++ t) (flat_two a b end_ ∙ ap (λ (t : List ℕ). 32 ∷ (decimal a ++ 32 ∷ (decimal b ++ t))) ends ∙ ap (λ (t : List ℕ). 32 ∷ (decimal a ++ 32 ∷ t)) (append-nil (decimal b)))

as_three : (name text end_ : List ℕ) (a b c : ℕ) → text ≡ name ++ (numbers_text (a ∷ b ∷ c ∷ []) ++ end_) → end_ ≡ [] → text ≡ name ++ 32 ∷ (decimal a ++ 32 ∷ (decimal b ++ 32 ∷ decimal c))
as_three name text end_ a b c spelled ends =
    spelled ∙ ap (λ (t : List ℕ). name ++ t) (flat_three a b c end_ ∙ ap (λ (t : List ℕ). 32 ∷ (decimal a ++ 32 ∷ (decimal b ++ 32 ∷ (decimal c ++ t)))) ends
    ∙ ap (λ (t : List ℕ). 32 ∷ (decimal a ++ 32 ∷ (decimal b ++ 32 ∷ t))) (append-nil (decimal c)))

reading_again : (op : Op) (text : List ℕ) → AsksReading op text → reading_of text ≡ Some op
unfolding reading_of reading_by
reading_again (Get key) text (spelled, k) = rw (spelled, key_passes key k) refl
reading_again (Rev key) text (spelled, k) = rw (spelled, key_passes key k) refl
reading_again (Next []) text spelled = rw spelled refl
reading_again (Next (b ∷ above)) text (spelled, k) = rw (spelled, key_passes (b ∷ above) k) refl
reading_again Count text spelled = rw spelled refl
reading_again (Put key document) text asks = absurd asks
reading_again (Del key) text asks = absurd asks
reading_again (Add key amount) text asks = absurd asks
reading_again (PutIf key revision document) text asks = absurd asks

read_again : (code : ℕ) (op : Op) (command : List ℕ) → Fit code → AsksReading op command
    → raise_of (Some (decimal code ++ 32 ∷ (codes "read " ++ command))) ≡ Some (Raise code (Some (op_words op)))
unfolding raise_of raise_behind
read_again code op command fits asks =
    let cut = word_cut (decimal code) (codes "read " ++ command) (decimal_unspaced code fits) in
    rw (cut.0, cut.1, number_of-decimal code fits) (ap (option_map (λ o. Raise code (Some (op_words o)))) (reading_again op command asks))

raised_again : (code : ℕ) → Fit code → raise_of (Some (decimal code)) ≡ Some (Raise code None)
unfolding raise_of raise_behind
raised_again code fits = let one = word_alone (decimal code) (decimal_unspaced code fits) in rw (one.0, one.1, number_of-decimal code fits) refl

loaded_again : (r i : ℕ) → Fit r → Fit i → load_of (Some (decimal r ++ 32 ∷ decimal i)) ≡ Some (LoadWord r i false)
unfolding load_of load_behind
loaded_again r i fits fits_too =
    let cut = word_cut (decimal r) (decimal i) (decimal_unspaced r fits) in
    let one = word_alone (decimal i) (decimal_unspaced i fits_too) in
    rw (cut.0, cut.1, number_of-decimal r fits, one.0, one.1, number_of-decimal i fits_too) refl

refused_again : (r i : ℕ) → Fit r → Fit i → load_of (Some (decimal r ++ 32 ∷ (decimal i ++ codes " refused"))) ≡ Some (LoadWord r i true)
unfolding load_of load_behind
refused_again r i fits fits_too =
    let cut = word_cut (decimal r) (decimal i ++ codes " refused") (decimal_unspaced r fits) in
    let next = word_cut (decimal i) (codes "refused") (decimal_unspaced i fits_too) in
    rw (cut.0, cut.1, number_of-decimal r fits, next.0, next.1, number_of-decimal i fits_too) refl

kind_again : (kind : Kind) (text : List ℕ) → IsKindText kind text → kind_of text ≡ Some kind
unfolding kind_of kind_by kind_without kind_with_one kind_with_two kind_with_three
kind_again LoadFree text is = ap kind_of (as_none (codes "load_free") text is.end_ is.spelled is.ends)
kind_again LoadCur text is = ap kind_of (as_none (codes "load_cur") text is.end_ is.spelled is.ends)
kind_again Publish text is = ap kind_of (as_none (codes "publish") text is.end_ is.spelled is.ends)
kind_again Retire text is = ap kind_of (as_none (codes "retire") text is.end_ is.spelled is.ends)
kind_again Confirm text is = ap kind_of (as_none (codes "confirm") text is.end_ is.spelled is.ends)
kind_again Unprotect text is = ap kind_of (as_none (codes "unprotect") text is.end_ is.spelled is.ends)
kind_again OpenFree text is = ap kind_of (as_none (codes "open_free") text is.end_ is.spelled is.ends)
kind_again (Link j) text is = ap kind_of (as_one (codes "link") text is.end_ j is.spelled is.ends) ∙ one_again (codes "link") j (is.fits 0 0 (omega arith))
kind_again (Look s) text is = ap kind_of (as_one (codes "look") text is.end_ s is.spelled is.ends) ∙ one_again (codes "look") s (is.fits 0 0 (omega arith))
kind_again (TryExclusive r) text is = ap kind_of (as_one (codes "try_exclusive") text is.end_ r is.spelled is.ends) ∙ one_again (codes "try_exclusive") r (is.fits 0 0 (omega arith))
kind_again (TryShared r) text is = ap kind_of (as_one (codes "try_shared") text is.end_ r is.spelled is.ends) ∙ one_again (codes "try_shared") r (is.fits 0 0 (omega arith))
kind_again (BackOff r) text is = ap kind_of (as_one (codes "back_off") text is.end_ r is.spelled is.ends) ∙ one_again (codes "back_off") r (is.fits 0 0 (omega arith))
kind_again (Downgrade r) text is = ap kind_of (as_one (codes "downgrade") text is.end_ r is.spelled is.ends) ∙ one_again (codes "downgrade") r (is.fits 0 0 (omega arith))
kind_again (ReleaseExclusive r) text is = ap kind_of (as_one (codes "release_exclusive") text is.end_ r is.spelled is.ends) ∙ one_again (codes "release_exclusive") r (is.fits 0 0 (omega arith))
kind_again (Protect p) text is = ap kind_of (as_one (codes "protect") text is.end_ p is.spelled is.ends) ∙ one_again (codes "protect") p (is.fits 0 0 (omega arith))
kind_again (CloseLow target) text is = ap kind_of (as_one (codes "close_low") text is.end_ target is.spelled is.ends) ∙ one_again (codes "close_low") target (is.fits 0 0 (omega arith))
kind_again (Scan d) text is = ap kind_of (as_one (codes "scan") text is.end_ d is.spelled is.ends) ∙ one_again (codes "scan") d (is.fits 0 0 (omega arith))
kind_again (Offer j) text is = ap kind_of (as_one (codes "offer") text is.end_ j is.spelled is.ends) ∙ one_again (codes "offer") j (is.fits 0 0 (omega arith))
kind_again (Persist r i) text is = ap kind_of (as_two (codes "persist") text is.end_ r i is.spelled is.ends) ∙ two_again (codes "persist") r i (is.fits 0 0 (omega arith)) (is.fits 1 0 (omega arith))
kind_again (LoadOffer k t) text is = ap kind_of (as_two (codes "load_offer") text is.end_ k t is.spelled is.ends) ∙ two_again (codes "load_offer") k t (is.fits 0 0 (omega arith)) (is.fits 1 0 (omega arith))
kind_again (WriteCell j i v) text is = ap kind_of (as_three (codes "write_cell") text is.end_ j i v is.spelled is.ends) ∙ three_again (codes "write_cell") j i v (is.fits 0 0 (omega arith)) (is.fits 1 0 (omega arith)) (is.fits 2 0 (omega arith))
kind_again (ReadCell t k i) text is = ap kind_of (as_three (codes "read_cell") text is.end_ t k i is.spelled is.ends) ∙ three_again (codes "read_cell") t k i (is.fits 0 0 (omega arith)) (is.fits 1 0 (omega arith)) (is.fits 2 0 (omega arith))
kind_again (StoreWord r i v) text is = ap kind_of (as_three (codes "store_word") text is.end_ r i v is.spelled is.ends) ∙ three_again (codes "store_word") r i v (is.fits 0 0 (omega arith)) (is.fits 1 0 (omega arith)) (is.fits 2 0 (omega arith))
kind_again (WriteSet j i v) text is = ap kind_of (as_three (codes "write_set") text is.end_ j i v is.spelled is.ends) ∙ three_again (codes "write_set") j i v (is.fits 0 0 (omega arith)) (is.fits 1 0 (omega arith)) (is.fits 2 0 (omega arith))
kind_again (ReadSet k t i) text is = ap kind_of (as_three (codes "read_set") text is.end_ k t i is.spelled is.ends) ∙ three_again (codes "read_set") k t i (is.fits 0 0 (omega arith)) (is.fits 1 0 (omega arith)) (is.fits 2 0 (omega arith))
kind_again (LoadGap s i) text is = ap kind_of (as_two (codes "load_gap") text is.end_ s i is.spelled is.ends) ∙ two_again (codes "load_gap") s i (is.fits 0 0 (omega arith)) (is.fits 1 0 (omega arith))
kind_again (NoteGap s i v) text is = ap kind_of (as_three (codes "note_gap") text is.end_ s i v is.spelled is.ends) ∙ three_again (codes "note_gap") s i v (is.fits 0 0 (omega arith)) (is.fits 1 0 (omega arith)) (is.fits 2 0 (omega arith))
kind_again (LoadWord r i false) text is =
    ap kind_of (as_two (codes "load_word") text is.end_ r i is.spelled is.ends) ∙ loaded_again r i (is.fits 0 0 (omega arith)) (is.fits 1 0 (omega arith))
kind_again (LoadWord r i true) text is =
    ap kind_of (is.spelled ∙ ap (λ (t : List ℕ). codes "load_word" ++ t) (flat_two r i is.end_ ∙ ap (λ (t : List ℕ). 32 ∷ (decimal r ++ 32 ∷ (decimal i ++ t))) is.ends))
    ∙ refused_again r i (is.fits 0 0 (omega arith)) (is.fits 1 0 (omega arith))
kind_again (Raise code None) text is =
    ap kind_of (as_one (codes "raise") text is.end_ code is.spelled is.ends) ∙ raised_again code (is.fits 0 0 (omega arith))
kind_again (Raise code (Some words)) text is =
    let op = is.ends.0 in
    let command = is.ends.1 in
    ap kind_of (is.spelled ∙ ap (λ (t : List ℕ). codes "raise" ++ t) (flat_one code is.end_ ∙ ap (λ (t : List ℕ). 32 ∷ (decimal code ++ t)) is.ends.4))
    ∙ read_again code op command (is.fits 0 0 (omega arith)) is.ends.2
    ∙ ap (λ (ws : List ℕ). Some (Raise code (Some ws))) (sym is.ends.3)

-- the text of a number is not the word `crash`
number_no_crash : (n : ℕ) → Fit n → is_word (codes "crash") (decimal n) ≡ false
number_no_crash n fits =
    elim (cases_Bool (is_word (codes "crash") (decimal n))) [
      | inl hit ↦ (
          let same : number_of (decimal n) ≡ None = ap number_of (word_is (codes "crash") (decimal n) hit) in
          absurd (none-some n (sym same ∙ number_of-decimal n fits)))
      | inr miss ↦ miss
    ]

what_again : (callers : ℕ) (what : TraceWhat) (line : List ℕ) → SaysTraceLine callers what line → what_of callers line ≡ Some what
unfolding what_of what_behind caller_number_of
what_again callers (Crash choice place) line (spelled, fits, fits_too) = rw spelled (crash_again choice place fits fits_too)
what_again callers (Event event) line (text, is, spelled, fits, small) =
    let cut = word_cut (decimal event.caller) text (decimal_unspaced event.caller fits) in
    rw (spelled, cut.0, cut.1, number_no_crash event.caller fits, number_of-decimal event.caller fits, lt-ltb event.caller callers small, kind_again event.kind text is) refl

-- ---- lines are read by the grammar

mapped_ok : {A B E : Type 0} (f : A → B) (o : Option A) (reason : E) (y : B) → ok_or (option_map f o) reason ≡ Ok y → (x : A) × (o ≡ Some x) × (y ≡ f x)
mapped_ok f None reason y e = absurd cc
mapped_ok f (Some x) reason y e = (x, refl, cc)

the_reason : {A E : Type 0} (o : Option A) (found reason : E) → ok_or o found ≡ Err reason → reason ≡ found
the_reason None found reason e = cc
the_reason (Some x) found reason e = absurd cc

not_full : (n : ℕ) → n < 10000 → leb 10000 n ≡ false
not_full n few = elim (cases_Bool (leb 10000 n)) [ inl full ↦ (let h : 10000 ≤ n = leb-true 10000 n full in absurd (omega arith)) | inr room ↦ room ]

sound : (before : TraceLines) (line : List ℕ) (after : TraceLines) → judged_trace before line ≡ Ok after → AddsTraceLine before line after
sound Nothing line after e =
    let head = mapped_ok (λ head. Begun (with_head head)) (trace_head_of line) reasons.Trace after e in
    (head.0, trace_head_is line head.0 head.1, head.2)
sound (Begun trace) line after e =
    elim (cases_Bool (leb 10000 (length trace.steps))) [
      | inl full ↦ (let h : Err reasons.Events ≡ Ok after = rw full at e in absurd cc)
      | inr room ↦ (
          let h : ok_or (option_map (λ what. Begun (with_step trace what)) (what_of trace.callers line)) reasons.Event ≡ Ok after = rw room at e in
          let what = mapped_ok (λ what. Begun (with_step trace what)) (what_of trace.callers line) reasons.Event after h in
          (what.0, what_is trace.callers line what.0 what.1, leb-false 10000 (length trace.steps) room, what.2))
    ]

complete : (before : TraceLines) (line : List ℕ) (after : TraceLines) → AddsTraceLine before line after → judged_trace before line ≡ Ok after
complete Nothing line after (head, is, same) = rw (head_again line head is, same) refl
complete (Begun trace) line after (what, says, few, same) = rw (not_full (length trace.steps) few, what_again trace.callers what line says, same) refl

because : (before : TraceLines) (line : List ℕ) (reason : TraceReason) → judged_trace before line ≡ Err reason → reason ≡ trace_reason_for before
because Nothing line reason e = the_reason (option_map (λ head. Begun (with_head head)) (trace_head_of line)) reasons.Trace reason e
because (Begun trace) line reason e =
    elim (cases_Bool (leb 10000 (length trace.steps))) [
      | inl full ↦ (let h : Err reasons.Events ≡ Err reason = rw full at e in rw full cc)
      | inr room ↦ (
          let h : ok_or (option_map (λ what. Begun (with_step trace what)) (what_of trace.callers line)) reasons.Event ≡ Err reason = rw room at e in
          rw room (the_reason (option_map (λ what. Begun (with_step trace what)) (what_of trace.callers line)) reasons.Event reason h))
    ]

pub reads_traces : ReadsLines trace_grammar judged_trace
reads_traces = record {
  sound = sound;
  complete = complete;
  refused = λ before line reason e. record {
    none = λ after adds. no_value (judged_trace before line) after reason (complete before line after adds) e;
    because = because before line reason e;
  };
}
