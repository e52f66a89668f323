-- What faults are called.
-- Assumes nothing.
use Rattle.std.specs.Prelude.{ℕ, List, ◌++◌, codes, decimal}
use Rattle.book.specs.Draft.{draft_number, draft_words}
use Rattle.sheet.specs.declared.faults.Fault.{Fault}
use Rattle.sheet.specs.declared.faults.Layer.{Layer}
use Rattle.sheet.specs.declared.faults.Layer.TheVariants as layer
use Rattle.sheet.specs.declared.faults.ReaderRefusal.{ReaderRefusal}
use Rattle.sheet.specs.declared.faults.ReaderRefusal.TheVariants.{TooLong, NotInForm, SectionCountOutside, NameTwice, NoSuchWord, NoSuchName, LeftOver}
use Rattle.sheet.specs.declared.faults.Refusal.{Refusal}
use Rattle.sheet.specs.declared.faults.Refusal.TheVariants.{Reader, Draft}

-- The published numbers of the reader's refusals, and of all.
abbrev pub reader_number : ReaderRefusal → ℕ
reader_number TooLong = 1
reader_number NotInForm = 2
reader_number SectionCountOutside = 3
reader_number NameTwice = 4
reader_number NoSuchWord = 5
reader_number NoSuchName = 6
reader_number LeftOver = 7

abbrev pub refusal_number : Refusal → ℕ
refusal_number (Reader r) = reader_number r
refusal_number (Draft d) = draft_number d

-- The layer that turns a sheet down, and its word.
abbrev pub layer_of : Refusal → Layer
layer_of (Reader r) = layer.Reader
layer_of (Draft d) = layer.Draft

abbrev pub layer_word : Layer → List ℕ
layer_word layer.Reader = codes "reader"
layer_word layer.Draft = codes "draft"

-- What is printed of refusals and of faults.
abbrev pub reader_words : ReaderRefusal → List ℕ
reader_words TooLong = codes "the sheet has more than 16,384 bytes"
reader_words NotInForm = codes "the line that is due is missing, or not of its form"
reader_words SectionCountOutside = codes "the count of the section is outside its limits"
reader_words NameTwice = codes "the name stands already"
reader_words NoSuchWord = codes "no template has this word"
reader_words NoSuchName = codes "no cue has this name"
reader_words LeftOver = codes "there are bytes after the last line"

abbrev pub refusal_words : Refusal → List ℕ
refusal_words (Reader r) = reader_words r
refusal_words (Draft d) = draft_words d

abbrev pub fault_words : Fault → List ℕ
fault_words f = codes "line " ++ decimal f.line ++ codes ": " ++ refusal_words f.refusal
