-- The report of a script's lives as text, with commands on documents and their replies.
use Rattle.std.specs.Prelude.{ℕ, List, ◌++◌, codes}
use Rattle.std.specs.Fmt.{decimal, signed_decimal}
use Rattle.doc_model.specs.declared.operations.Op.{Op}
use Rattle.doc_model.specs.declared.operations.Reply.{Reply}
use Rattle.doc_model.specs.declared.operations.Reply.TheVariants.{New, Replaced, Deleted, Absent, Doc, Sum, NotNumber, Overflow, NoRoom, Key, Number, Set, Stale, Revision}
use Rattle.life_records.specs.Records.{LifeRecord, Script}
use Rattle.script_text.specs.Report as reports
use Rattle.script_text.specs.Report.{Wording}
use Rattle.doc_text.specs.Grammar.{command_text}

-- a reply as text
abbrev pub reply_text : Reply → List ℕ
reply_text New = codes "new"
reply_text Replaced = codes "replaced"
reply_text Deleted = codes "deleted"
reply_text Absent = codes "none"
reply_text (Doc document) = document
reply_text (Sum sum) = codes "sum " ++ signed_decimal sum
reply_text NotNumber = codes "notnumber"
reply_text Overflow = codes "overflow"
reply_text NoRoom = codes "noroom"
reply_text (Key key) = codes "key " ++ key
reply_text (Number count) = codes "count " ++ decimal count
reply_text (Set revision) = codes "set " ++ decimal revision
reply_text (Stale revision) = codes "stale " ++ decimal revision
reply_text (Revision revision) = codes "rev " ++ decimal revision

-- how commands on documents, their replies and the number of documents are written in a report
abbrev pub document_wording : Wording Op Reply
document_wording = record { command_text = command_text; reply_text = reply_text; items = codes " documents " }

-- the report of a script
abbrev pub document_report_of : Script Op → List (LifeRecord Reply) → List ℕ
document_report_of script records = reports.report_of document_wording script records
