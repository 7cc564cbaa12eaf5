-- Pairs listed one by one.
use Rattle.std.proofs.Common.{◌≡◌, ◌+◌, ◌*◌, ◌/◌, ◌%◌, ◌<◌, ◌≤◌, ℕ, List, [], ◌∷◌, ◌++◌, length, get_or, map, refl, sym, ap, subst, ◌∙◌, inl, inr, arith}
use Rattle.std.specs.Int.{div_ceil}
use Rattle.std.specs.List.{flat_map, All}
use Rattle.std.proofs.lemmas.Bool.{cases_lt}
use Rattle.std.proofs.lemmas.List.{append_assoc}
use Rattle.std.proofs.lemmas.List.Elements.{All-nil, All-cons, All-head, All-tail, All-weaker}
use Rattle.std.proofs.lemmas.List.FromFn.{fill_by_all}
use Rattle.cx_base.specs.Packing.{packed, unpacked, packed_at}
use Rattle.cx_base.specs.Store.{Store, IsKey, IsDocument}
use Rattle.cx_base.proofs.PackingLemmas.{unpacked-packed}
use Rattle.avl_words.specs.Tree.{size}
use Rattle.avl_words.specs.Lines.{word_of, IsWithin}
use Rattle.index_validation.specs.Order.{nodes_in_order, HasTree}
use Rattle.index_validation.proofs.Orders.{tree_of, in_order_root}
use Rattle.index_validation.specs.Lawful.{HasBlocks, IsContent}
use Rattle.index_validation.specs.Layout.{head_of, IsChain, PairLayout, lines_at, Placed, nodes_of, IsIndex}
use Rattle.index_validation.specs.Listing.{HasPlainText}
use Rattle.index_validation.specs.Reading.{text_at, triple_at, revised_in}
use Rattle.index_validation.proofs.Arranging.{arranged_tree, arranged_nodes}
use Rattle.index_validation.proofs.BlockReads.{word_at_past}
use Rattle.index_validation.proofs.Lines.{all_left, all_right, lines_within}
use Rattle.index_validation.proofs.OneStore.{placed_count}
use Rattle.index_validation.proofs.Texts.{small_everywhere, text_is, blocks_are}

-- a text read
pub has_blocks : (ws : List ℕ) (node at : ℕ) (t : HasPlainText ws node at) (first len count : ℕ) → first ≡ word_of ws node at → len ≡ word_of ws node (at + 1) → count ≡ div_ceil len 56 → HasBlocks ws first count
has_blocks ws node at t first len count f g e = record {
  lines = t.lines;
  chain = subst (λ n. IsChain ws n t.lines) (sym f) t.text.holds.chain;
  counted = t.text.holds.enough ∙ ap (λ n. (n + 55) / 56) (sym (g ∙ t.text.long)) ∙ blocks_are len ∙ sym e;
  within = t.text.within;
}

content_packed : (ws lines content bytes : List ℕ) → IsContent ws lines content → ((i : ℕ) → i < 7 * length lines → word_of ws (get_or lines (i / 7) 0) (1 + i % 7) ≡ packed_at bytes i) → length lines ≡ (length bytes + 55) / 56 →
    content ≡ packed (length content) bytes
content_packed ws lines content bytes c holds enough =
    fill_by_all (packed_at bytes) content (length content) 0 refl (λ k l. elim (cases_lt k (7 * length lines)) [
      | inl small ↦ c.front k small ∙ holds k small
      | inr large ↦ c.behind k large ∙ sym (word_at_past bytes k (omega arith))
    ])

pub text_read : (ws : List ℕ) (node at : ℕ) (content : List ℕ) (first len count : ℕ) → HasPlainText ws node at → first ≡ word_of ws node at → len ≡ word_of ws node (at + 1) → count ≡ div_ceil len 56 → length content ≡ 133 →
    ((lines : List ℕ) → IsChain ws first lines → length lines ≡ count → IsContent ws lines content) →
    unpacked len content ≡ text_at node at ws
unfolding has_blocks
text_read ws node at content first len count t f g e long read =
    let b = has_blocks ws node at t first len count f g e in
    let small = small_everywhere (λ b. b < 256) t.bytes (λ b h. h) t.plain in
    let holds = t.text.holds in
    let c = read t.lines b.chain b.counted in
    let packs = content_packed ws t.lines content t.bytes c holds.packed holds.enough in
    ap (λ n. unpacked n content) (g ∙ t.text.long) ∙ ap (unpacked (length t.bytes)) packs
    ∙ unpacked-packed (length content) t.bytes small (let short = t.short in omega arith)
    ∙ sym (text_is ws node at t.lines t.bytes holds t.text.long small)

-- a node whose pair can be read
pub record NamesPair (ws : List ℕ) (node : ℕ) : Type 0 where
  pub key : HasPlainText ws node 3
  pub document : HasPlainText ws node 5

key_plain : (key : List ℕ) → IsKey key → All (λ b. b < 256) key
key_plain key is = All-weaker (λ b. (33 ≤ b) × (b ≤ 126)) (λ b. b < 256) (λ b h. omega (arith, h.1)) key is.visible

document_plain : (document : List ℕ) → IsDocument document → All (λ b. b < 256) document
document_plain document is = All-weaker (λ b. (32 ≤ b) × (b < 256)) (λ b. b < 256) (λ b h. h.1) document is.plain

names_pairs : (ws : List ℕ) (places : List PairLayout) (store : Store) → Placed ws places store → All (IsWithin ws) (flat_map lines_at places) → All (λ p. IsKey p.0) store → All (λ p. IsDocument p.1) store → All (NamesPair ws) (nodes_of places)
names_pairs ws [] [] n within keys documents = All-nil _
names_pairs ws [] (q ∷ store) n within keys documents = absurd n
names_pairs ws (p ∷ places) [] n within keys documents = absurd n
names_pairs ws (p ∷ places) (q ∷ store) n within keys documents =
    let here = all_left (IsWithin ws) (lines_at p) (flat_map lines_at places) within in
    let blocks = All-tail (IsWithin ws) p.node (p.key_lines ++ p.document_lines) here in
    let there = All-head (IsWithin ws) p.node (p.key_lines ++ p.document_lines) here in
    let is_key = All-head (λ p. IsKey p.0) q store keys in
    let is_document = All-head (λ p. IsDocument p.1) q store documents in
    All-cons (NamesPair ws) p.node (nodes_of places) (record {
      key = record {
        lines = p.key_lines;
        bytes = q.0;
        text = record { holds = n.0.key; long = n.0.key_length; node_within = there; within = all_left (IsWithin ws) p.key_lines p.document_lines blocks };
        short = (let short = is_key.short in omega arith);
        plain = key_plain q.0 is_key;
      };
      document = record {
        lines = p.document_lines;
        bytes = q.1;
        text = record { holds = n.0.document; long = n.0.document_length; node_within = there; within = all_right (IsWithin ws) p.key_lines p.document_lines blocks };
        short = is_document.short;
        plain = document_plain q.1 is_document;
      };
    })
    (names_pairs ws places store n.1 (all_right (IsWithin ws) (lines_at p) (flat_map lines_at places) within) (All-tail (λ p. IsKey p.0) q store keys) (All-tail (λ p. IsDocument p.1) q store documents))

nodes_name_pairs : (ws : List ℕ) → IsIndex ws → All (NamesPair ws) (nodes_in_order (word_of ws 0 1) ws)
nodes_name_pairs ws i =
    let s = i.stands in
    let a = s.arranged in
    let within = all_left (IsWithin ws) (flat_map lines_at s.places) s.given (all_left (IsWithin ws) (flat_map lines_at s.places ++ s.given) [] (lines_within ws (head_of 2 s.last) i.store s.tree s.places s.given [] a)) in
    subst (All (NamesPair ws)) (arranged_nodes ws (head_of 2 s.last) i.store s.tree s.places s.given [] a) (names_pairs ws s.places i.store a.nodes.pairs within s.lawful.keys s.lawful.documents)

-- the pairs listed so far, and the nodes that are left
pub record ListedSoFar (ws more : List ℕ) (pairs : List ((List ℕ × List ℕ) × ℕ)) : Type 0 where
  pub all : pairs ++ map (triple_at ws) more ≡ (revised_in ws).triples
  pub left : All (NamesPair ws) more

pub list_begins : (ws more : List ℕ) → IsIndex ws → more ≡ nodes_in_order (word_of ws 0 1) ws → ListedSoFar ws more []
unfolding revised_in
list_begins ws more i e = record { all = ap (map (triple_at ws)) (e ∙ in_order_root ws); left = subst (All (NamesPair ws)) (sym e) (nodes_name_pairs ws i) }

pub list_next : (ws more : List ℕ) (node : ℕ) (pairs : List ((List ℕ × List ℕ) × ℕ)) → ListedSoFar ws (node ∷ more) pairs → NamesPair ws node
list_next ws more node pairs s = All-head (NamesPair ws) node more s.left

pub list_more : (ws more : List ℕ) (node : ℕ) (pairs : List ((List ℕ × List ℕ) × ℕ)) (pair : (List ℕ × List ℕ) × ℕ) → ListedSoFar ws (node ∷ more) pairs → pair ≡ triple_at ws node → ListedSoFar ws more (pairs ++ pair ∷ [])
list_more ws more node pairs pair s is = record {
  all = append_assoc pairs (pair ∷ []) (map (triple_at ws) more) ∙ ap (λ q. pairs ++ (q ∷ map (triple_at ws) more)) is ∙ s.all;
  left = All-tail (NamesPair ws) node more s.left;
}

pub index_tree : (ws : List ℕ) → IsIndex ws → HasTree ws (word_of ws 0 1) 0
index_tree ws i =
    let s = i.stands in
    let a = s.arranged in
    let t = arranged_tree ws (head_of 2 s.last) i.store s.tree s.places s.given [] a in
    tree_of ws (word_of ws 0 1) (size s.tree) (record { tree = s.tree; stands = t.stands; balanced = t.balanced; root_is = sym t.root_is; counted = refl }) t.few

pub index_count : (ws : List ℕ) → IsIndex ws → length (nodes_in_order (word_of ws 0 1) ws) ≡ word_of ws 0 5
index_count ws i =
    let s = i.stands in
    let a = s.arranged in
    let nodes = ap length (arranged_nodes ws (head_of 2 s.last) i.store s.tree s.places s.given [] a) in
    let pairs = a.pair_count in
    omega (arith, nodes, pairs, placed_count ws s.places i.store a.nodes.pairs)
