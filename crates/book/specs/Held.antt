-- What an opened record holds.
use Rattle.model.specs.Books as tree
use Rattle.book.specs.Tables.{Table}
use Rattle.book.specs.Opens.{book_of}
use Rattle.book.specs.Views.{table}
use Rattle.book.specs.declared.book.Book.{Book}

-- the table
abbrev pub held : Book → Table
held b = table b.table

-- the book
abbrev pub tree_of : Book → tree.Book
tree_of b = book_of (held b)
