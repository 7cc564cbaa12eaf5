-- The one life of a script that a pool runs.
use Rattle.std.proofs.Common.{◌≡◌, ◌≤◌, ℕ, List, [], ◌∷◌, Some, ap, arith, length, refl, slice_get, subst, sym}
use Rattle.std.specs.Prelude.{All}
use Rattle.std.proofs.lemmas.List.Elements.{All-head}
use Rattle.std.proofs.lemmas.Option.{none-some, same_Some}
use Rattle.table_invariant.specs.Ending.{Ending}
use Rattle.cx_table.specs.declared.remains.Remains.{Remains}
use Rattle.doc_model.specs.Meaning.{IsOp}
use Rattle.doc_model.specs.declared.operations.Op.{Op}
use Rattle.doc_model.specs.declared.operations.Reply.{Reply}
use Rattle.doc_store.specs.DocumentMeaning.{document_meaning}
use Rattle.doc_store.specs.ExactStep.{IsImageOfStore, reads_in, store_step}
use Rattle.life_records.specs.Limits.{IsLifeInLimits}
use Rattle.life_records.specs.Lives.{NameCommands}
use Rattle.life_records.specs.Records.{Life, LifeRecord, Script}
use Rattle.life_records.specs.Scripts.{command_count}
use Rattle.life_records.proofs.Naming.{names_of_lives}
use Rattle.pool_lives.specs.PoolRuns.{HasPooled, IsLifeOfPool}
use Rattle.doc_commands.specs.PoolTexts.{AreOfDocumentPool, MayPool, RunsPool}

pub one_life : (lives : List (Life Op)) (life : Life Op) → length lives ≤ 1 → slice_get lives 0 ≡ Some life → lives ≡ life ∷ []
one_life [] life few at = absurd (none-some life at)
one_life (x ∷ []) life few at = ap (λ (l : Life Op). l ∷ []) (same_Some x life at)
one_life (x ∷ y ∷ lives) life few at = absurd (omega (arith, few))

pub may_run : (seats : ℕ) (script : Script Op) (life : Life Op) → MayPool seats script → script.lives ≡ life ∷ [] → IsLifeOfPool (document_meaning script.lines) life
may_run seats script life may one = record {
  limits = All-head (IsLifeInLimits IsOp 64) life [] (subst (All (IsLifeInLimits IsOp 64)) one may.limits.each);
  uncut = All-head (λ (l : Life Op). l.cuts ≡ []) life [] (subst (All (λ (l : Life Op). l.cuts ≡ [])) one (may.within.uncut refl));
  few = (let few = may.limits.commands in let same : command_count script.lives ≡ command_count (life ∷ []) = ap command_count one in omega (arith, few, same));
}

pub runs : (seats : ℕ) (script : Script Op) (life : Life Op) (report : LifeRecord Reply) (remains : Remains) → script.lives ≡ life ∷ [] → HasPooled (document_meaning script.lines) script.lines (IsImageOfStore script.lines) (store_step script.lines) reads_in life seats report remains → RunsPool seats script report remains
runs seats script life report remains one pooled = record {
  are = subst (λ lives. AreOfDocumentPool script.lines seats lives (report ∷ []) (remains.trail ∷ [])) (sym one) (pooled.legal, pooled.tells, pooled.began);
  callers = pooled.callers;
}

-- the lines of the records of a pool script name commands of the script
pub named : (lines seats : ℕ) (lives : List (Life Op)) (records : List (LifeRecord Reply)) (trails : List Ending) → AreOfDocumentPool lines seats lives records trails → NameCommands lives records
named lines seats [] [] [] are = tt
named lines seats (life ∷ []) (report ∷ []) (trail ∷ []) are = (let m = document_meaning lines in names_of_lives m 0 m.opening (life ∷ []) (report ∷ []) (are.0.legal, tt))
named lines seats _ _ _ are = absurd are
