-- What putting a document at a key does to the store.
use Rattle.std.proofs.Common.{◌↔◌, IsTrue, ◌≡◌, ◌≢◌, ◌^◌, ◌+◌, ◌-◌, ◌*◌, ◌/◌, ◌<◌, ◌≤◌, ℕ, Bool, true, false, cond, leb, List, [], ◌∷◌, ◌++◌, is_some, inl, inr, refl, sym, ap, ap₂, subst, ◌∙◌, arith}
use Rattle.std.proofs.lemmas.Bool.{cases_eq}
use Rattle.std.proofs.lemmas.Bool.Decides.{nat_tests}
use Rattle.cx_base.specs.Store.{Store, IsKey, IsDocument, blocks, pair_lines, lines_of}
use Rattle.doc_model.specs.Meaning.{document_at, pairs_below, pairs_above, with_pair, has_room}
use Rattle.doc_model.proofs.Stores.{IsStore-with_pair}
use Rattle.avl_words.specs.Ways.{spot, with_new}
use Rattle.avl_words.specs.Lines.{line_count, word_of, with_word}
use Rattle.avl_words.specs.Words.{root}
use Rattle.avl_words.specs.Exact.{with_tree}
use Rattle.avl_words.proofs.ExactWords.{tree_in_is}
use Rattle.index_validation.specs.Layout.{IsLaidOut, head_of, IsRevision, StandsFor, IsIndex}
use Rattle.index_validation.specs.Reading.{store_in, revised_in}
use Rattle.index_validation.proofs.LawfulWords.{store_is}
use Rattle.index_validation.proofs.Totals.{all_lines}
use Rattle.word_index.specs.Exact.{document_blocks, order_in, with_new_pair, with_one_more, with_added, node_at, with_replaced, with_written, is_key_in, with_document, inserted_in}
use Rattle.word_index.specs.Answers.{IsNodeOf}
use Rattle.word_index.specs.Fresh.{CanTake}
use Rattle.word_index.specs.Insertion.{Inserts, CanAdd, CanWrite, WritesAt, IsInsertKnown, PutsDocument}
use Rattle.word_index.specs.declared.insertion.Inserted.{Inserted}
use Rattle.word_index.specs.declared.insertion.Inserted.TheVariants.{New, Replaced, NoRoom}
use Rattle.word_index.specs.Rewriting.{CanRewrite}
use Rattle.word_index.specs.Walk.{HasNode, AtSpot}
use Rattle.word_index.proofs.Adding.{add_room, added_stands, plain_of}
use Rattle.word_index.proofs.DocumentChanges.{replaced_is}
use Rattle.word_index.proofs.ReplacedDocuments.{with_lines}
use Rattle.word_index.proofs.ExactTaking.{new_pair_is}
use Rattle.word_index.proofs.NodeReads.{document_text}
use Rattle.word_index.proofs.Putting.{lines_of_append, lines_of_cons, lines_of_places}
use Rattle.word_index.proofs.Splits.{above_split, below_split, above_behind, below_behind, document_there, document_missing}
use Rattle.word_index.proofs.KeyPlaces.{tree_of, walk_end, IsMissing, HasPlace, none_at, place_is_at, place_node, spot_node}
use Rattle.index_validation.proofs.Revisions.{triples_of, triples_read}
use Rattle.word_index.proofs.Triples.{Triple, HasTriples, StandsWith, written_at, triples_replaced, raised, stands_again, written_revisions, revisions_of}
use Rattle.doc_model.specs.Revisions.{RevisedStore, next_revision, store_written}
use Rattle.std.specs.List.{All}

-- the store with the document, where the walk ended at nothing, and where it ended at the key's node
module _ (x key document : List ℕ) (version : ℕ) (store : Store) (s : StandsFor x version store) where
  module _ (m : IsMissing x key s.places store (walk_end (order_in key x) s.tree).0) where
    missing_with : with_pair key document store ≡ m.split.lower ++ (key, document) ∷ m.split.others
    missing_with =
        ap (λ u. u ++ (key, document) ∷ pairs_above key store) (ap (pairs_below key) m.split.store_is ∙ below_split key m.split.lower m.split.others m.below m.above)
        ∙ ap (λ u. m.split.lower ++ (key, document) ∷ u) (ap (pairs_above key) m.split.store_is ∙ above_split key m.split.lower m.split.others m.below m.above)

    pub missing_lines : lines_of (with_pair key document store) ≡ lines_of store + pair_lines (key, document)
    missing_lines =
        omega (
          arith,
          ap lines_of missing_with,
          ap lines_of m.split.store_is,
          lines_of_append m.split.lower ((key, document) ∷ m.split.others),
          lines_of_cons (key, document) m.split.others,
          lines_of_append m.split.lower m.split.others,
        )

    pub missing_key : is_some (document_at key store) ≡ false
    missing_key = ap is_some (ap (document_at key) m.split.store_is ∙ document_missing key m.split.lower m.split.others m.below m.above)

  module _ (node : ℕ) (h : HasPlace x key s.places store (walk_end (order_in key x) s.tree).0 (walk_end (order_in key x) s.tree).1 node) where
    here_is : store ≡ h.at.lower ++ (key, h.document) ∷ h.at.after
    here_is = h.at.store_is ∙ ap (λ p. h.at.lower ++ p ∷ h.at.after) h.pair_is

    pub here_with : with_pair key document store ≡ h.at.lower ++ (key, document) ∷ h.at.after
    here_with =
        ap (λ u. u ++ (key, document) ∷ pairs_above key store) (ap (pairs_below key) here_is ∙ below_behind key h.document h.at.lower h.at.after h.below h.above)
        ∙ ap (λ u. h.at.lower ++ (key, document) ∷ u) (ap (pairs_above key) here_is ∙ above_behind key h.document h.at.lower h.at.after h.below h.above)

    pub here_lines : lines_of (with_pair key document store) ≡ lines_of h.at.lower + pair_lines (key, document) + lines_of h.at.after
    here_lines = omega (arith, ap lines_of here_with, lines_of_append h.at.lower ((key, document) ∷ h.at.after), lines_of_cons (key, document) h.at.after)

    pub here_before : lines_of store ≡ lines_of h.at.lower + pair_lines (key, h.document) + lines_of h.at.after
    here_before = omega (arith, ap lines_of here_is, lines_of_append h.at.lower ((key, h.document) ∷ h.at.after), lines_of_cons (key, h.document) h.at.after)

    pub here_key : is_some (document_at key store) ≡ true
    here_key = ap is_some (ap (document_at key) here_is ∙ document_there key h.document h.at.lower h.at.after h.below)

    pub here_can : lines_of (with_pair key document store) + 1 ≤ line_count x → CanRewrite x node document
    here_can room = record {
      head = head_of version s.last;
      tree = s.tree;
      lower = h.at.lower;
      after = h.at.after;
      pair = h.at.pair;
      front = h.at.front;
      rest = h.at.rest;
      place = h.at.place;
      given = s.given;
      here = h.at.node_is;
      arranged = subst (λ ps. IsLaidOut x (head_of version s.last) (h.at.lower ++ h.at.pair ∷ h.at.after) s.tree ps s.given []) h.at.places_are (subst (λ st. IsLaidOut x (head_of version s.last) st s.tree s.places s.given []) h.at.store_is s.arranged);
      placed_front = h.at.placed_front;
      room = (let lines = here_lines in subst (λ k. lines_of h.at.lower + pair_lines (k, document) + lines_of h.at.after + 1 ≤ line_count x) (sym (ap (λ (p : List ℕ × List ℕ). p.0) h.pair_is)) (omega (arith, lines, room)));
    }

    pub replaced_stands : (revision : ℕ) → IsDocument document → lines_of (with_pair key document store) + 1 ≤ line_count x →
        HasTriples (with_replaced document node revision x) (head_of version s.last) (with_pair key document store) (written_at key document revision (triples_of s.places store))
    unfolding here_can
    replaced_stands revision is_document room =
        let w = replaced_is x node document (here_can room) revision is_document.short in
        let place = with_lines h.at.place w.lines revision in
        let same : h.at.lower ++ (h.at.pair.0, document) ∷ h.at.after ≡ with_pair key document store = ap (λ (p : List ℕ × List ℕ). h.at.lower ++ (p.0, document) ∷ h.at.after) h.pair_is ∙ sym here_with in
        record {
          tree = w.tree;
          places = h.at.front ++ place ∷ h.at.rest;
          given = w.given;
          arranged = subst (λ st. IsLaidOut (with_replaced document node revision x) (head_of version s.last) st w.tree (h.at.front ++ place ∷ h.at.rest) w.given []) same w.arranged;
          triples_are = ap (triples_of (h.at.front ++ place ∷ h.at.rest)) here_with
              ∙ triples_replaced x key h.at.front h.at.rest h.at.lower h.at.after h.at.placed_front h.below h.above h.document h.at.place document place
              ∙ ap (written_at key document revision) (sym (ap₂ triples_of h.at.places_are here_is));
        }

  pub added_is : (revision : ℕ) → 0 ≡ root (walk_end (order_in key x) s.tree).1 → IsKey key → IsDocument document → lines_of store + pair_lines (key, document) + 1 ≤ line_count x →
      HasTriples (with_added (key, document) revision x) (head_of version s.last) (with_pair key document store) (written_at key document revision (triples_of s.places store))
  unfolding with_added
  added_is revision none is_key is_document room =
      let pair : List ℕ × List ℕ = (key, document) in
      let here = add_room x version store s pair room in
      let can : CanTake x (pair_lines pair) = record { head = head_of version s.last; store = store; tree = s.tree; places = s.places; given = s.given; loose = []; arranged = s.arranged; room = here } in
      let new = with_new_pair pair revision x in
      let p = new_pair_is pair revision x (plain_of pair is_key is_document) can (head_of version s.last) store s.tree s.places s.given s.arranged here in
      subst (λ u. HasTriples (with_one_more (with_tree (with_new (order_in key x) new.0 u) new.1)) (head_of version s.last) (with_pair key document store) (written_at key document revision (triples_of s.places store)))
      (sym (tree_in_is x s.tree (tree_of x version store s))) (added_stands x pair version store s none new.1 revision new.0 p)

  pub node_at_is : root (walk_end (order_in key x) s.tree).1 ≡ node_at key x
  unfolding node_at
  node_at_is = ap (λ u. root (walk_end (order_in key x) u).1) (sym (tree_in_is x s.tree (tree_of x version store s)))

  -- the words with a document put at a key have the pairs with it, whether the key was there or not
  pub there_with : (revision : ℕ) → IsKey key → IsDocument document → lines_of (with_pair key document store) + 1 ≤ line_count x → (b : Bool) → is_some (document_at key store) ≡ b →
      HasTriples (cond b (with_replaced document (node_at key x) revision x) (with_added (key, document) revision x)) (head_of version s.last) (with_pair key document store) (written_at key document revision (triples_of s.places store))
  there_with revision is_key is_document room b e =
      let node = root (walk_end (order_in key x) s.tree).1 in
      let RepresentsTree : List ℕ → Type 0 = λ w. HasTriples w (head_of version s.last) (with_pair key document store) (written_at key document revision (triples_of s.places store)) in
      elim (cases_eq node 0) [
        | inl z ↦
            let m = none_at x key version store s (sym z) in
            let lines = missing_lines m in
            let f : false ≡ b = sym (missing_key m) ∙ e in
            subst (λ b. RepresentsTree (cond b (with_replaced document (node_at key x) revision x) (with_added (key, document) revision x))) f (added_is revision (sym z) is_key is_document (omega (arith, lines, room)))
        | inr n ↦
            let h = place_is_at x key version store s node refl n in
            let t : true ≡ b = sym (here_key node h) ∙ e in
            subst (λ b. RepresentsTree (cond b (with_replaced document (node_at key x) revision x) (with_added (key, document) revision x))) t
            (subst (λ n. RepresentsTree (with_replaced document n revision x)) node_at_is (replaced_stands node h revision is_document room))
      ]

pub room_parts : (total count : ℕ) → leb total (count - 1) ≡ true → 1 ≤ count → total + 1 ≤ count
room_parts total count e some = grind (arith, nat_tests)

-- a document put at a key
module _ (key document x : List ℕ) (is_key : IsKey key) (is_document : IsDocument document) where
  abbrev next : ℕ
  next = next_revision (word_of x 0 6)

  -- where there is room, the words with a document put at a key stand for the store with it
  put_stands : (store : Store) (s : StandsFor x 2 store) → has_room (line_count x) (with_pair key document store) ≡ true →
      StandsWith (with_word 0 6 next (with_written key document next x)) next (with_pair key document store) (written_at key document next (triples_of s.places store))
  unfolding is_key_in with_written
  put_stands store s room =
      let there : is_some (document_at key store) ≡ is_key_in key x = ap (λ st. is_some (document_at key st)) (sym (store_is x 2 store s)) in
      let written = there_with x key document 2 store s next is_key is_document (room_parts (lines_of (with_pair key document store)) (line_count x) room s.arranged.sized.some) (is_key_in key x) there in
      stands_again (with_word 0 6 next (with_written key document next x)) next (with_pair key document store) (written_at key document next (triples_of s.places store))
      (raised (with_written key document next x) (head_of 2 s.last) (with_pair key document store) (written_at key document next (triples_of s.places store)) next written)
      (IsStore-with_pair key document store is_key is_document s.lawful)
      (subst (λ n. All (λ t. IsRevision (head_of 2 (next_revision n)) t.1) (written_at key document (next_revision n) (triples_of s.places store))) (sym s.arranged.last_word)
      (written_revisions key document s.last (triples_of s.places store) (revisions_of x store s)))

  put_by : (b : Bool) → is_key_in key x ≡ b → has_room (line_count x) (with_pair key document (store_in x)) ≡ true →
      Inserts key document (cond b Replaced New) x (with_word 0 6 next (with_written key document next x))
  unfolding is_key_in
  put_by true e room = λ store s. (
      let same = store_is x 2 store s in
      let room_here = subst (λ st. has_room (line_count x) (with_pair key document st) ≡ true) same room in
      (room_here, subst (λ st. is_some (document_at key st) ≡ true) same e, (put_stands store s room_here).stands))
  put_by false e room = λ store s. (
      let same = store_is x 2 store s in
      let room_here = subst (λ st. has_room (line_count x) (with_pair key document st) ≡ true) same room in
      (room_here, subst (λ st. is_some (document_at key st) ≡ false) same e, (put_stands store s room_here).stands))

  inserted_by : (b : Bool) → has_room (line_count x) (with_pair key document (store_in x)) ≡ b →
      Inserts key document (cond b (cond (is_key_in key x) Replaced New) NoRoom) x (cond b (with_word 0 6 next (with_written key document next x)) x)
  inserted_by true e = put_by (is_key_in key x) refl e
  inserted_by false e = λ store s. (subst (λ st. has_room (line_count x) (with_pair key document st) ≡ false) (store_is x 2 store s) e, refl)

  pub inserted_is : Inserts key document (inserted_in key document x) x (with_document key document x)
  unfolding inserted_in with_document
  inserted_is = inserted_by (has_room (line_count x) (with_pair key document (store_in x))) refl

  -- the revisions read off the words after a put are those of the store with the document, or as before where there is no room
  revised_by : (i : IsIndex x) (b : Bool) → has_room (line_count x) (with_pair key document (store_in x)) ≡ b →
      revised_in (cond b (with_word 0 6 next (with_written key document next x)) x) ≡ cond b (store_written key document (revised_in x)) (revised_in x)
  unfolding revised_in
  revised_by i true e =
      let room = subst (λ st. has_room (line_count x) (with_pair key document st) ≡ true) (store_is x 2 i.store i.stands) e in
      let make : List Triple → RevisedStore = λ ts. record { last = next; triples = written_at key document next ts } in
      (put_stands i.store i.stands room).revised ∙ ap make (sym (triples_read x 2 i.store i.stands))
  revised_by i false e = refl

  pub document_revised : IsIndex x → revised_in (with_document key document x) ≡ cond (has_room (line_count x) (with_pair key document (store_in x))) (store_written key document (revised_in x)) (revised_in x)
  unfolding with_document
  document_revised i = revised_by i (has_room (line_count x) (with_pair key document (store_in x))) refl

pub can_have_node : (ws key nodes sides : List ℕ) (depth node above : ℕ) → AtSpot false key nodes sides depth node above ws → IsIndex ws → node ≢ 0 → HasNode ws node
can_have_node ws key nodes sides depth node above spot i n = spot_node ws key nodes sides depth node above spot n i

-- the lines in use without those of the old pair and with those of the new one are `total`
pub record IsCounted (used old more total : ℕ) : Type 0 where
  pub below : old ≤ used
  pub sum : used - old + more ≡ total

module _ {x key nodes sides : List ℕ} {depth node above used old lines : ℕ} (document : List ℕ) (k : IsInsertKnown key nodes sides depth node above used old lines x) where
  pub counted : IsCounted used old (pair_lines (key, document)) (lines_of (with_pair key document k.index.store))
  counted =
      let store = k.index.store in
      let s = k.index.stands in
      let e = (k.spot 2 store s).at.node_is in
      let u = k.in_use 2 store s in
      elim (cases_eq node 0) [
        | inl z ↦
            let lines = missing_lines x key document 2 store s (none_at x key 2 store s (sym z ∙ e)) in
            let none = k.here.none z in
            record { below = omega (arith, none); sum = omega (arith, none, u, lines) }
        | inr ne ↦
            let h = place_is_at x key 2 store s node e ne in
            let lines = here_lines x key document 2 store s node h in
            let before = here_before x key document 2 store s node h in
            let some = k.here.some ne (key, h.document) (place_node x key 2 store s (walk_end (order_in key x) s.tree).0 (walk_end (order_in key x) s.tree).1 node h) in
            record { below = omega (arith, some, u, before); sum = omega (arith, some, u, lines, before) }
      ]

  pub used_few : used ≤ 2 ^ 32
  used_few =
      let s = k.index.stands in
      let a = s.arranged in
      omega (arith, k.in_use 2 k.index.store s, all_lines x (head_of 2 s.last) k.index.store s.tree s.places s.given [] a, lines_of_places x s.places k.index.store a.nodes.pairs, a.end_to, a.sized.few)

  module _ {more : ℕ} (e : more ≡ pair_lines (key, document)) where
    count_lines : line_count x ≡ lines
    count_lines = ap (λ m. m / 8) k.long ∙ (let h : 8 * lines / 8 ≡ lines = omega arith in h)

    total : used - old + more ≡ lines_of (with_pair key document k.index.store)
    total = ap (λ m. used - old + m) e ∙ counted.sum

    pub no_room : lines - 1 < used - old + more → has_room (line_count x) (with_pair key document (store_in x)) ≡ false
    no_room l =
        subst (λ st. has_room (line_count x) (with_pair key document st) ≡ false) (sym (store_is x 2 k.index.store k.index.stands))
        (too_many (used - old + more) (lines_of (with_pair key document k.index.store)) (line_count x) total (subst (λ c. c - 1 < used - old + more) (sym count_lines) l))
      where
        too_many : (a b c : ℕ) → a ≡ b → c - 1 < a → leb b (c - 1) ≡ false
        too_many a b c e l = grind (arith, nat_tests)

    pub room : used - old + more ≤ lines - 1 → lines_of (with_pair key document k.index.store) + 1 ≤ line_count x
    room l = (let t = total in let c = count_lines in let some = k.index.stands.arranged.sized.some in omega (arith, t, c, some, l))

    pub has_some_room : used - old + more ≤ lines - 1 → has_room (line_count x) (with_pair key document (store_in x)) ≡ true
    has_some_room l =
        subst (λ st. has_room (line_count x) (with_pair key document st) ≡ true) (sym (store_is x 2 k.index.store k.index.stands)) (enough (lines_of (with_pair key document k.index.store)) (line_count x) (room l))
      where
        enough : (b c : ℕ) → b + 1 ≤ c → leb b (c - 1) ≡ true
        enough b c l = grind (arith, nat_tests)

    pub can_add : used - old + more ≤ lines - 1 → node ≡ 0 → IsKey key → IsDocument document → CanAdd x nodes sides depth (key, document)
    can_add l z is_key is_document =
        let s = k.index.stands in
        let m = none_at x key 2 k.index.store s (sym z ∙ (k.spot 2 k.index.store s).at.node_is) in
        let r = room l in
        let lines = missing_lines x key document 2 k.index.store s m in
        record {
          above = above;
          spot = subst (λ d. AtSpot false key nodes sides depth d above x) z k.spot;
          index = k.index;
          room = omega (arith, r, lines);
          is_key = is_key;
          is_document = is_document;
        }

    can_rewrite : used - old + more ≤ lines - 1 → node ≢ 0 → CanRewrite x node document
    can_rewrite l ne =
        let s = k.index.stands in
        here_can x key document 2 k.index.store s node (place_is_at x key 2 k.index.store s node (k.spot 2 k.index.store s).at.node_is ne) (room l)

    -- whether the document needs as many blocks as the one that is there
    module _ (ne : node ≢ 0) where
      old_place : HasPlace x key k.index.stands.places k.index.store (walk_end (order_in key x) k.index.stands.tree).0 (walk_end (order_in key x) k.index.stands.tree).1 node
      old_place = place_is_at x key 2 k.index.store k.index.stands node (k.spot 2 k.index.store k.index.stands).at.node_is ne

      old_node : IsNodeOf x node (key, old_place.document)
      old_node = place_node x key 2 k.index.store k.index.stands (walk_end (order_in key x) k.index.stands.tree).0 (walk_end (order_in key x) k.index.stands.tree).1 node old_place

      old_blocks : document_blocks node x ≡ blocks old_place.document
      unfolding document_blocks
      old_blocks = ap (λ m. (m + 55) / 56) (document_text x node (key, old_place.document) old_node).long

      old_lines : old ≡ pair_lines (key, old_place.document)
      old_lines = k.here.some ne (key, old_place.document) old_node

      alike : old ≡ more → document_blocks node x ≡ blocks document
      alike same = omega (arith, old_blocks, old_lines, e, same)

      alike_back : document_blocks node x ≡ blocks document → old ≡ more
      alike_back same = omega (arith, old_blocks, old_lines, e, same)

    pub can_write : (same : Bool) → IsTrue same ↔ (old ≡ more) → used - old + more ≤ lines - 1 → IsKey key → IsDocument document → CanWrite x nodes sides depth node same (key, document)
    can_write same is l is_key is_document = record {
      new = λ z. can_add l z is_key is_document;
      over = λ ne. record {
        can = can_rewrite l ne;
        is_alike = (λ t. alike ne (is.0 t), λ b. is.1 (alike_back ne b));
      };
    }

    -- where there is no room, NoRoom and the words as they are is what the definition says
    pub exact_none : lines - 1 < used - old + more → PutsDocument key document NoRoom x x
    unfolding inserted_in with_document
    exact_none l =
        let f = no_room l in (
          ap (λ b. cond b (cond (is_key_in key x) Replaced New) NoRoom) (sym f),
          ap (λ b. cond b (with_word 0 6 (next_revision (word_of x 0 6)) (with_written key document (next_revision (word_of x 0 6)) x)) x) (sym f),
        )

    key_is : (b : Bool) → is_some (document_at key k.index.store) ≡ b → is_key_in key x ≡ b
    unfolding is_key_in
    key_is b e = ap (λ st. is_some (document_at key st)) (store_is x 2 k.index.store k.index.stands) ∙ e

    -- the last revision is raised, after the pair is written with it
    pub exact_put : (inserted : Inserted) (revision : ℕ) (w : List ℕ) → used - old + more ≤ lines - 1 → IsKey key → IsDocument document → revision ≡ next_revision (word_of x 0 6) → WritesAt nodes sides depth node (key, document) revision inserted x w →
        PutsDocument key document inserted x (with_word 0 6 revision w)
    unfolding inserted_in with_document with_written can_add
    exact_put inserted revision w l is_key is_document is t =
        let s = k.index.stands in
        let f = has_some_room l in
        let done : (b : Bool) → is_key_in key x ≡ b → inserted ≡ cond b Replaced New → w ≡ cond b (with_replaced document (node_at key x) revision x) (with_added (key, document) revision x) → PutsDocument key document inserted x (with_word 0 6 revision w) =
        λ b q a g. (
          a ∙ ap (λ b. cond b Replaced New) (sym q) ∙ ap (λ b. cond b (cond (is_key_in key x) Replaced New) NoRoom) (sym f),
          ap (with_word 0 6 revision) (g ∙ ap (λ b. cond b (with_replaced document (node_at key x) revision x) (with_added (key, document) revision x)) (sym q))
              ∙ ap (λ r. with_word 0 6 r (cond (is_key_in key x) (with_replaced document (node_at key x) r x) (with_added (key, document) r x))) is
              ∙ ap (λ b. cond b (with_word 0 6 (next_revision (word_of x 0 6)) (with_written key document (next_revision (word_of x 0 6)) x)) x) (sym f),
        ) in
        let ended = (k.spot 2 k.index.store s).at.node_is in
        elim (cases_eq node 0) [
          | inl z ↦
              let c = can_add l z is_key is_document in
              let m = none_at x key 2 k.index.store s (sym z ∙ ended) in
              let n = t.new z in
              done false (key_is false (missing_key x key document 2 k.index.store s m)) n.0 (n.1 above c.spot k.index c.room is_key is_document)
          | inr ne ↦
              let h = place_is_at x key 2 k.index.store s node ended ne in
              let o = t.over ne in
              done true (key_is true (here_key x key document 2 k.index.store s node h)) o.0 (o.1 ∙ ap (λ n. with_replaced document n revision x) (ended ∙ node_at_is x key document 2 k.index.store s))
        ]
