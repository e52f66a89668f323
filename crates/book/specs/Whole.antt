-- A draft is what it holds, and so is a book.
-- Assumes nothing.
use Rattle.std.specs.Prelude.{◌≡◌}
use Rattle.book.specs.declared.books.Book.{Book}
use Rattle.book.specs.declared.drafts.Draft.{Draft}
use Rattle.book.specs.Book.{book_content}
use Rattle.book.specs.Draft.{draft_content}

-- Two drafts of the same content are one draft, and two such books are one book: neither has anything beside.
pub record WholeInContent : Type 0 where
  pub drafts : (d e : Draft) → draft_content d ≡ draft_content e → d ≡ e
  pub books : (b c : Book) → book_content b ≡ book_content c → b ≡ c
