-- One client's work more among all.
use Rattle.std.proofs.Common.{◌≡◌, ◌∙◌, ◌+◌, ◌≤◌, Bool, true, false, ◌||◌, ℕ, suc, List, [], ◌∷◌, ◌++◌, None, ap, arith, get_or, length, length-append, refl, slice_get, subst, sym, inl, inr}
use Rattle.std.specs.Prelude.{All, MatchBool}
use Rattle.std.specs.List.{range_with_len}
use Rattle.std.proofs.lemmas.List.Elements.{All-append, All-nil, All-push, All-weaker}
use Rattle.std.proofs.lemmas.Option.{none-some}
use Rattle.std.proofs.lemmas.Slice.Zip.{all_zipped_more, AllZip-long}
use Rattle.atomic_table.specs.Seated.{TableId}
use Rattle.cx_core.proofs.ListLemmas.{slice_get-append_left}
use Rattle.cx_core.proofs.Locals.{slice_get-last, slice_get-push}
use Rattle.cx_core.specs.declared.local.Linked.{Linked}
use Rattle.cx_core.specs.declared.local.SeenRead.{SeenRead}
use Rattle.cx_lives.proofs.Gathering.{GoesOn, numbers_more}
use Rattle.cx_lives.proofs.Serving.{is_whole}
use Rattle.cx_lives.specs.Serving.{IsAnsweredLine}
use Rattle.table_invariant.specs.Running.{Running}
use Rattle.client_pool.specs.Clients.{HasCalls, entries_called}
use Rattle.client_pool.specs.declared.call.Call.{Call}
use Rattle.client_pool.specs.declared.client.Client.{Client}
use Rattle.life_records.proofs.Lists.{all_each, zip_all}
use Rattle.life_records.specs.Records.{JournalLine, Life, Meaning, ReadLine}
use Rattle.life_records.specs.Scripts.{own_ops}
use Rattle.life_records.specs.Works.{AreWorks, IsReadLine, IsWork}
use Rattle.pool_lives.proofs.Ghosts.{locals_long, locals_more}
use Rattle.pool_lives.proofs.Making.{few_calls}
use Rattle.pool_lives.specs.Asking.{MayAsk}
use Rattle.pool_lives.specs.Gathering.{AddsServed, AreClientsGathered, ClientHasImpossibleEnd, HaveLines, IsLineAt}
use Rattle.pool_lives.specs.Ghosts.{IsCallAt, local_of, locals_from}
use Rattle.pool_lives.specs.Working.{CannotBeLeft, HasClosing, HasMadeCalls, IsAtWork, IsCalling, IsOver, ClientServedOf}
use Rattle.pool_lives.specs.declared.gather.GatheredClients.{GatheredClients}
use Rattle.pool_lives.specs.declared.work.ServedClient.{ServedClient}

module _ {Op Reply Store : Type 0} (m : Meaning Op Reply Store) (life : Life Op) (calls : List (List Call)) (own : List Call) where
  line_stays : (client command at next : ℕ) → IsLineAt calls client command at next → IsLineAt (calls ++ own ∷ []) client command at next
  line_stays client command at next is = record { own = is.own; of_client = slice_get-append_left calls (own ∷ []) client is.own is.of_client; is = is.is }

  new_line : (client command at next : ℕ) → client ≡ length calls → IsCallAt own command at next → IsLineAt (calls ++ own ∷ []) client command at next
  new_line client command at next here is = record { own = own; of_client = ap (slice_get (calls ++ own ∷ [])) here ∙ slice_get-last calls own; is = is }

  -- the lines of one client more
  lines_more : (es es' : List (JournalLine Reply)) (rs rs' : List (ReadLine Reply)) → GoesOn m life → HaveLines m life calls es rs → HasMadeCalls m life (length calls) (length (own_ops (length calls) life.commands)) own es' rs'
      → HaveLines m life (calls ++ own ∷ []) (es ++ es') (rs ++ rs')
  lines_more es es' rs rs' go_on lines made =
      let k = length calls in
      let l = local_of k own in
      let long : length (locals_from 0 calls) ≡ k = locals_long 0 calls in
      let zero_ : 0 + k ≡ k = omega arith in
      let all : locals_from 0 (calls ++ own ∷ []) ≡ locals_from 0 calls ++ l ∷ [] = locals_more 0 calls own ∙ ap (λ n. locals_from 0 calls ++ local_of n own ∷ []) zero_ in
      let work : IsWork m.encoding life k l es' rs' None None = is_whole m life k (length (own_ops k life.commands)) l es' rs' made.lists refl in
      let P : JournalLine Reply → Type 0 = λ line. IsLineAt (calls ++ own ∷ []) line.client line.command line.ticket (line.ticket + 1) in
      let Q : ReadLine Reply → Type 0 = λ line. IsLineAt (calls ++ own ∷ []) line.client line.command line.place line.place in
      let mine : All (λ (line : JournalLine Reply). line.client ≡ k) es' =
      all_each (λ (line : JournalLine Reply). line.client ≡ k) es' (zip_all (IsAnsweredLine m life k l.answered) (λ (line : JournalLine Reply). line.client ≡ k) (λ (x : Linked) (line : JournalLine Reply) h. h.0.client_is) l.own es' made.lists.entry_lines) in
      let seen : All (λ (line : ReadLine Reply). line.client ≡ k) rs' =
      all_each (λ (line : ReadLine Reply). line.client ≡ k) rs' (zip_all (IsReadLine m.encoding life k) (λ (line : ReadLine Reply). line.client ≡ k) (λ (x : SeenRead) (line : ReadLine Reply) h. h.client_is) l.seen_reads rs' made.lists.read_lines) in
      record {
        works = subst (λ ls. AreWorks m.encoding life ls (es ++ es') (rs ++ rs') [] []) (sym all) (go_on (locals_from 0 calls) l es es' rs rs' [] None [] None lines.works (subst (λ n. IsWork m.encoding life n l es' rs' None None) (sym long) work));
        entries_at = All-append P es es' (All-weaker (λ (line : JournalLine Reply). IsLineAt calls line.client line.command line.ticket (line.ticket + 1)) P (λ line is. line_stays line.client line.command line.ticket (line.ticket + 1) is) es lines.entries_at)
            (λ i d within. new_line (get_or es' i d).client (get_or es' i d).command (get_or es' i d).ticket ((get_or es' i d).ticket + 1) (mine i d within) (made.entries_at i d within));
        reads_at = All-append Q rs rs' (All-weaker (λ (line : ReadLine Reply). IsLineAt calls line.client line.command line.place line.place) Q (λ line is. line_stays line.client line.command line.place line.place is) rs lines.reads_at)
            (λ i d within. new_line (get_or rs' i d).client (get_or rs' i d).command (get_or rs' i d).place (get_or rs' i d).place (seen i d within) (made.reads_at i d within));
      }

  module _ (clients : List Client) (client : Client) (long : length clients ≡ length calls) where
    impossible_stays : ClientHasImpossibleEnd m life clients calls → ClientHasImpossibleEnd m life (clients ++ client ∷ []) (calls ++ own ∷ [])
    impossible_stays h = record {
      number = h.number;
      client = h.client;
      there = slice_get-append_left clients (client ∷ []) h.number h.client h.there;
      own = h.own;
      of_client = slice_get-append_left calls (own ∷ []) h.number h.own h.of_client;
      cannot = h.cannot;
    }

    impossible_now : CannotBeLeft m life (length calls) client own → ClientHasImpossibleEnd m life (clients ++ client ∷ []) (calls ++ own ∷ [])
    impossible_now cannot = record {
      number = length calls;
      client = client;
      there = ap (slice_get (clients ++ client ∷ [])) (sym long) ∙ slice_get-last clients client;
      own = own;
      of_client = slice_get-last calls own;
      cannot = cannot;
    }

    works_more : (es es' : List (JournalLine Reply)) (rs rs' : List (ReadLine Reply)) → GoesOn m life → (b c : Bool) → MatchBool b (ClientHasImpossibleEnd m life clients calls) (HaveLines m life calls es rs)
        → MatchBool c (CannotBeLeft m life (length calls) client own) (HasMadeCalls m life (length calls) (length (own_ops (length calls) life.commands)) own es' rs')
        → MatchBool (b || c) (ClientHasImpossibleEnd m life (clients ++ client ∷ []) (calls ++ own ∷ [])) (HaveLines m life (calls ++ own ∷ []) (es ++ es') (rs ++ rs'))
    works_more es es' rs rs' go_on true c all one = impossible_stays all
    works_more es es' rs rs' go_on false true all one = impossible_now one
    works_more es es' rs rs' go_on false false all one = lines_more es es' rs rs' go_on all one

-- a client's calls, however its worker ended
module _ {O Op Reply Store : Type 0} (m : Meaning Op Reply Store) (life : Life Op) (r : Running O) (table : TableId) where
  record Ended (k : ℕ) (served : ServedClient Reply) : Type 0 where
    who : IsCalling r table life.clients k served.client
    few : length (entries_called who.calls) ≤ length (own_ops k life.commands)
    end_is : MatchBool served.impossible (CannotBeLeft m life k served.client who.calls) (HasMadeCalls m life k (length (own_ops k life.commands)) who.calls served.lines.entries.items served.lines.reads.items)

  ended : (k : ℕ) (served : ServedClient Reply) (b : Bool) → served.impossible ≡ b → MatchBool b (IsOver m life r table life.clients k served.client) (IsAtWork m life r table life.clients k (length (own_ops k life.commands)) served.client served.lines) → Ended k served
  ended k served true is o = record { who = o.who; few = o.few; end_is = rw is o.cannot }
  ended k served false is w = record {
    who = w.who;
    few = few_calls m life k (length (own_ops k life.commands)) w.who.calls served.lines.entries.items served.lines.reads.items w.made;
    end_is = rw is w.made;
  }

  pub gathered_more : (before after : GatheredClients Reply) (served : ServedClient Reply) → GoesOn m life → AreClientsGathered m life r table before → AddsServed before after served → ClientServedOf m life r table life.clients (length before.clients.items) served → AreClientsGathered m life r table after
  gathered_more before after served go_on g adds s =
      let cs = before.clients.items in
      let n = length cs in
      let e = ended n served served.impossible refl s in
      let own = e.who.calls in
      let long : length cs ≡ length g.calls = sym (AllZip-long (HasCalls r) cs g.calls g.has) in
      let longer : length after.clients.items ≡ suc n = omega (arith, ap length adds.client, length-append cs (served.client ∷ [])) in
      record {
        each = rw adds.client (All-push (MayAsk r table) cs served.client g.each e.who.may);
        numbers = numbers_more (λ (c : Client). c.number) cs served.client after.clients.items n adds.client g.numbers e.who.by ∙ ap (range_with_len 0) (sym longer);
        closing = rw adds.client (All-push (HasClosing r table life.clients) cs served.client g.closing e.who.closing);
        calls = g.calls ++ own ∷ [];
        has = rw adds.client (all_zipped_more (HasCalls r) cs g.calls served.client own g.has e.who.has);
        few = λ k c at. elim (slice_get-push g.calls own k c at) [
          | inl there ↦ g.few k c there
          | inr new ↦ subst (λ (xs : List Call). length (entries_called xs) ≤ length (own_ops k life.commands)) new.1 (subst (λ i. length (entries_called own) ≤ length (own_ops i life.commands)) (long ∙ sym new.0) e.few)
        ];
        works = rw (adds.client, adds.entries, adds.reads, adds.impossible_is)
            (works_more m life g.calls own cs served.client long before.lines.entries.items served.lines.entries.items before.lines.reads.items served.lines.reads.items go_on before.impossible served.impossible g.works
            (subst (λ k. MatchBool served.impossible (CannotBeLeft m life k served.client own) (HasMadeCalls m life k (length (own_ops k life.commands)) own served.lines.entries.items served.lines.reads.items)) long e.end_is));
      }

-- before the first client, what is gathered is right: no client, no line, and nothing that cannot be
pub gathered_none : {O Op Reply Store : Type 0} (m : Meaning Op Reply Store) (life : Life Op) (r : Running O) (table : TableId) (g : GatheredClients Reply) → AreWorks m.encoding life [] [] [] [] [] → g.clients.items ≡ [] → g.lines.entries.items ≡ [] → g.lines.reads.items ≡ [] → g.impossible ≡ false
    → AreClientsGathered m life r table g
gathered_none {Reply = Reply} m life r table g works clients entries reads impossible = record {
  each = rw clients (All-nil (MayAsk r table));
  numbers = rw clients refl;
  closing = rw clients (All-nil (HasClosing r table life.clients));
  calls = [];
  has = rw clients tt;
  few = λ k own at. absurd (none-some own at);
  works =
      subst (λ b. MatchBool b (ClientHasImpossibleEnd m life g.clients.items []) (HaveLines m life [] g.lines.entries.items g.lines.reads.items)) (sym impossible)
      (subst (λ es. HaveLines m life [] es g.lines.reads.items) (sym entries)
      (subst (λ rs. HaveLines m life [] [] rs) (sym reads)
      (record {
        works = works;
        entries_at = All-nil (λ (line : JournalLine Reply). IsLineAt [] line.client line.command line.ticket (line.ticket + 1));
        reads_at = All-nil (λ (line : ReadLine Reply). IsLineAt [] line.client line.command line.place line.place);
      })));
}
