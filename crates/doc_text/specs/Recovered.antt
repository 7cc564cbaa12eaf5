-- What is recovered from an image as text.
use Rattle.std.specs.Prelude.{ℕ, List, ◌++◌, length, codes, flat_map}
use Rattle.std.specs.Fmt.{decimal}
use Rattle.doc_text.specs.Report.{reply_text}
use Rattle.doc_text.specs.declared.recovered.Applied.{Applied}
use Rattle.doc_text.specs.declared.recovered.Recovered.{Recovered}

-- the last command of a client that was applied
abbrev pub applied_text : Applied → List ℕ
applied_text applied =
    codes "client " ++ decimal applied.client ++ codes " applied " ++ decimal applied.number ++ codes " = " ++ reply_text applied.reply ++ codes "\n"

-- a key, its revision and its document
abbrev pub document_text : (List ℕ × List ℕ) × ℕ → List ℕ
document_text triple = codes "document " ++ triple.0.0 ++ codes " rev " ++ decimal triple.1 ++ codes " " ++ triple.0.1 ++ codes "\n"

-- the place, as the text begins with it
unfoldable pub place_text : ℕ → List ℕ
place_text place = codes "recovered place " ++ decimal place

-- the place, and how many documents there are
abbrev pub head_text : ℕ → ℕ → List ℕ
head_text place documents = place_text place ++ codes " documents " ++ decimal documents ++ codes "\n"

-- the place, then the clients, then the documents
abbrev pub recovered_text : Recovered → List ℕ
recovered_text found =
    head_text found.place (length found.documents) ++ flat_map applied_text found.outcomes ++ flat_map document_text found.documents
