-- Bytes say one image, and have one end.
use Rattle.std.proofs.Common.{◌≡◌, ℕ, List, [], ◌∷◌, Result, Ok, refl, sym, subst, ◌∙◌}
use Rattle.plain_text.specs.LineGrammar.{AddsAll}
use Rattle.plain_text.specs.Lines.{text_lines}
use Rattle.cx_core.specs.declared.entry.Image.{Image}
use Rattle.image_text.specs.ImageTexts.{IsImageText, image_grammar}
use Rattle.image_text.specs.Judging.{reads_images}
use Rattle.image_text.specs.declared.lines.ImageLines.{ImageLines}
use Rattle.image_text.specs.declared.lines.ImageLines.TheVariants.{Nothing, Whole}
use Rattle.image_text.specs.declared.lines.ImageReason.{ImageReason}
use Rattle.doc_commands.specs.Documents.{TellsDocuments}
use Rattle.doc_commands.specs.ImageTexts.{HasEnd}
use Rattle.doc_commands.specs.declared.image_answer.ImageEnd.{ImageEnd}
use Rattle.doc_commands.specs.declared.image_answer.ImageEnd.TheVariants.{Fine, Refused, BadImage}

one_value : (a b : ImageLines) → ◌≡◌ {A = Result ImageLines ImageReason} (Ok a) (Ok b) → a ≡ b
one_value a b same = cc

-- the same lines, with the same said before them, say one thing: `a` and `b` are equal
said_once : (before : ImageLines) (lines : List (List ℕ)) (a b : ImageLines) → AddsAll image_grammar before lines a → AddsAll image_grammar before lines b
    → a ≡ b
said_once before [] a b x y = x ∙ sym y
said_once before (line ∷ lines) a b (m, x, xs) (n, y, ys) =
    let same : n ≡ m = one_value n m (sym (reads_images.complete before line n y) ∙ reads_images.complete before line m x) in
    said_once m lines a b xs (subst (λ s. AddsAll image_grammar s lines b) same ys)

same_image : (a b : Image) → Whole a ≡ Whole b → a ≡ b
same_image a b same = cc

-- a text is that of one image only: `a` and `b` are equal
pub one_image : (input : List ℕ) (a b : Image) → IsImageText input a → IsImageText input b → a ≡ b
one_image input a b x y = same_image a b (said_once Nothing (text_lines input) (Whole a) (Whole b) x y)

pub one_end : (input : List ℕ) (one other : ImageEnd) → HasEnd input one → HasEnd input other → one ≡ other
one_end input Fine Fine x y = refl
one_end input Fine BadImage x y = absurd (y.2 (subst TellsDocuments (one_image input x.0 y.0 x.1 y.1) x.2))
one_end input Fine Refused x y = absurd (y x.0 x.1)
one_end input BadImage Fine x y = absurd (x.2 (subst TellsDocuments (one_image input y.0 x.0 y.1 x.1) y.2))
one_end input BadImage BadImage x y = refl
one_end input BadImage Refused x y = absurd (y x.0 x.1)
one_end input Refused Fine x y = absurd (x y.0 y.1)
one_end input Refused BadImage x y = absurd (x y.0 y.1)
one_end input Refused Refused x y = refl
