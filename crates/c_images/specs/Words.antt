-- An image in words: eight of head, and then the words of all replicas, or those of one.
use Rattle.std.specs.Prelude.{◌≡◌, ◌≢◌, ◌⊎◌, ◌+◌, ◌-◌, ◌*◌, ◌<◌, ◌≤◌, ℕ, List, drop, length, nat_lt, slice_index, if◌then◌else◌}
use Rattle.cx_base.specs.OldFormat.{OldFormat}
use Rattle.cx_core.specs.declared.entry.Base.{Base}
use Rattle.cx_core.specs.declared.entry.Image.{Image}
use Rattle.cx_core.specs.Region.{region_words}
use Rattle.cx_table.specs.declared.remains.Remains.{Remains}
use Rattle.recovery.specs.Crashes.{left_root, left_word}
use Rattle.recovery.specs.Images.{Gives, IsReadable, image_size, region_of}
use Rattle.recovery.specs.Recovery.{HasSize, IsFaultOf, IsRecovered, NumbersWithin}
use Rattle.recovery.specs.declared.recovered_base.ImageFault.{ImageFault}
use Rattle.recovery.specs.declared.recovered_base.ImageFault.TheVariants.{Memory}
use Rattle.c_images.specs.declared.head.Head.{Head}
use Rattle.c_images.specs.declared.reader.WordsFault.{WordsFault}
use Rattle.c_images.specs.declared.reader.WordsFault.TheVariants.{Head as HeadFault, Kind, Image as ImageRefused, Numbers}

-- the format that a head has as word 1
abbrev pub format_in : List ℕ → ℕ
format_in words = slice_index words 1

-- the kind of object that a head has as word 2
abbrev pub object_kind_in : List ℕ → ℕ
object_kind_in words = slice_index words 2

-- the number of callers that a head has as word 3
abbrev pub callers_in : List ℕ → ℕ
callers_in words = slice_index words 3

-- the number of the object's lines that a head has as word 4
abbrev pub lines_in : List ℕ → ℕ
lines_in words = slice_index words 4

-- the root that a head has as word 5
abbrev pub root_in : List ℕ → ℕ
root_in words = slice_index words 5

-- the formats: the words of all replicas stand after the head, or those of one
abbrev pub IsFormat : ℕ → Type 0
IsFormat format = (format ≡ 1) ⊎ (format ≡ 2)

-- the kinds of objects: a document store, a queue, and a program's object
abbrev pub IsKind : ℕ → Type 0
IsKind kind = (kind ≡ 1) ⊎ ((kind ≡ 2) ⊎ (kind ≡ 3))

-- the last words of a head are 0
abbrev pub AreZeros : List ℕ → Type 0
AreZeros words = (slice_index words 6 ≡ 0) × (slice_index words 7 ≡ 0)

-- words that begin with the head of some image: "githoppu", format 1 or 2, a kind, 1 to 8 callers, 64 to 16,384 lines, and two words that are 0
pub record IsHeaded (words : List ℕ) : Type 0 where
  pub enough : 8 ≤ length words
  pub name : slice_index words 0 ≡ 8462387323625302375
  pub format : IsFormat (format_in words)
  pub kind : IsKind (object_kind_in words)
  pub zeros : AreZeros words
  pub some : 1 ≤ callers_in words
  pub few : callers_in words ≤ 8
  pub least : 64 ≤ lines_in words
  pub most : lines_in words ≤ 16384

-- words begin with the head of some image, and this is what it says
pub record IsSaid (words : List ℕ) (head : Head) : Type 0 where
  pub headed : IsHeaded words
  pub format : head.format ≡ format_in words
  pub callers : head.callers ≡ callers_in words
  pub lines : head.lines ≡ lines_in words
  pub root : head.root ≡ root_in words

-- words with this head, of an object of this kind
abbrev pub IsHeadOf : ℕ → List ℕ → Head → Type 0
IsHeadOf kind words head = (object_kind_in words ≡ kind) × IsSaid words head

-- why words are no image of an object of this kind: they begin with no head, or with that of another kind
abbrev pub IsHeadFault : ℕ → List ℕ → WordsFault → Type 0
IsHeadFault kind words HeadFault = ¬ IsHeaded words
IsHeadFault kind words (Kind found) = IsHeaded words × (found ≡ object_kind_in words) × (object_kind_in words ≢ kind)
IsHeadFault kind words fault = ⊥

-- the words after the head, of which the first is put at an address; 0 before it
abbrev pub word_from : ℕ → List ℕ → ℕ → ℕ
word_from start words at = if nat_lt at start then 0 else slice_index words (at - start + 8)

-- the image in words of format 1, which have the words of all replicas
pub record SaysReplicas (words : List ℕ) (image : Image) : Type 0 where
  pub count : length words ≡ image.count + 8
  pub pairs : Gives (λ at. slice_index words (at + 8)) image.count image.pairs

-- Words of format 2 say those of one replica, which stand for each: the image has as many words as these and the other replicas have, and where that is its
-- size, the region that the root names is these words, whichever replica that is.
pub record SaysRegion (words : List ℕ) (image : Image) : Type 0 where
  pub count : image.count ≡ length words - 8 + region_words image.lines * (2 * image.callers - 1)
  pub region : HasSize image → region_of image ≡ drop 8 words

-- the image in words: it has the numbers of the head, and the words after the head, by the format
pub record SaysImage (words : List ℕ) (image : Image) : Type 0 where
  pub callers : image.callers ≡ callers_in words
  pub lines : image.lines ≡ lines_in words
  pub root : image.root ≡ root_in words
  pub replicas : format_in words ≡ 1 → SaysReplicas words image
  pub one : format_in words ≡ 2 → SaysRegion words image

-- the image that words say, and it can be read as one of an object of this many lines
pub record SaysReadable (words : List ℕ) (lines : ℕ) (image : Image) : Type 0 where
  pub said : SaysImage words image
  pub readable : IsReadable lines image

-- up to an end, the words after the head are those that a crash leaves; there are as many in all as the other number says
pub record AreLeftWords (r : Remains) (choice end_ count : ℕ) (words : List ℕ) : Type 0 where
  pub long : length words ≡ count + 8
  pub each : (at : ℕ) → at < end_ → slice_index words (at + 8) ≡ left_word r choice at

-- words that begin with the head of these numbers
pub record HasHead (format kind callers lines root : ℕ) (words : List ℕ) : Type 0 where
  pub name : slice_index words 0 ≡ 8462387323625302375
  pub format_is : format_in words ≡ format
  pub kind_is : object_kind_in words ≡ kind
  pub callers_are : callers_in words ≡ callers
  pub lines_are : lines_in words ≡ lines
  pub root_is : root_in words ≡ root
  pub zeros : AreZeros words

-- words of what a crash leaves of a closed service by choice, whose object is of this kind
pub record AreRemainsWritten (kind : ℕ) (r : Remains) (choice : ℕ) (words : List ℕ) : Type 0 where
  pub head : HasHead 1 kind r.callers r.lines (left_root r choice) words
  pub left : AreLeftWords r choice (image_size r.callers r.lines) (image_size r.callers r.lines) words

-- The base that is taken up from words, for an object with this version, these lawful images and this old format: the one that recovery gives for the image
-- in the words. No number of its results is above its place.
pub record IsTakenUp (version : ℕ) (lawful : List ℕ → Type 0) (old : OldFormat) (words : List ℕ) (base : Base) : Type 0 where
  pub image : Image
  pub says : SaysImage words image
  pub recovered : IsRecovered version lawful old image base
  pub numbers : NumbersWithin base

-- recovery refuses the image that words say, by this fault
pub record AreWordsRefused (version : ℕ) (lawful : List ℕ → Type 0) (old : OldFormat) (words : List ℕ) (fault : ImageFault) : Type 0 where
  pub image : Image
  pub says : SaysImage words image
  pub is : IsFaultOf version lawful old image fault

-- recovery gives, of the image that words say, a base of which a result has a number above the place
pub record HasNumberAbove (version : ℕ) (lawful : List ℕ → Type 0) (old : OldFormat) (words : List ℕ) : Type 0 where
  pub image : Image
  pub says : SaysImage words image
  pub base : Base
  pub recovered : IsRecovered version lawful old image base
  pub above : ¬ NumbersWithin base

-- why no base is taken up from words with a head
abbrev pub IsWordsFault : ℕ → (List ℕ → Type 0) → OldFormat → List ℕ → WordsFault → Type 0
IsWordsFault version lawful old words (ImageRefused Memory) = Unit {0}
IsWordsFault version lawful old words (ImageRefused fault) = AreWordsRefused version lawful old words fault
IsWordsFault version lawful old words Numbers = HasNumberAbove version lawful old words
IsWordsFault version lawful old words fault = ⊥
