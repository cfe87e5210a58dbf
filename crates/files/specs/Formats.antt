-- Files: some sizes, then the kinds, then the operands; a size and an operand have four bytes, least first.
use Rattle.std.specs.Prelude.{ℕ, ◌+◌, ◌-◌, ◌*◌, not, ◌||◌, ◌==◌, nat_lt, List, ◌++◌, map, length, take, drop, Ok}
use Rattle.std.specs.Int.{to_le_bytes, from_le_bytes, w32}
use Rattle.fault.specs.declared.Layer.TheVariants.{File}
use Rattle.table.specs.Reading.{Entry}
use Rattle.table.specs.Answers.{Answer, refuse_if, and_then}
use Rattle.std.specs.List.{flat_map}
use Rattle.model.specs.Lists.{below}
use Rattle.instantiate.specs.Outcome.{kinds_of, operands_of}

-- numbers as bytes, one after the other
abbrev pub bytes_of : List ℕ → List ℕ
bytes_of = flat_map (to_le_bytes w32)

-- the number whose bytes stand at the front
unfoldable pub number : List ℕ → ℕ
number bytes = from_le_bytes w32 (take 4 bytes)

-- so many numbers from the front on
abbrev pub numbers : ℕ → List ℕ → List ℕ
numbers n bytes = map (λ i. number (drop (4 * i) bytes)) (below n)

-- the sizes, then the kinds, then the operands
unfoldable pub laid_out : List ℕ → List ℕ → List ℕ → List ℕ
laid_out sizes kinds operands = bytes_of sizes ++ (kinds ++ bytes_of operands)

-- a file with these sizes and entries
abbrev pub file : List ℕ → List Entry → List ℕ
file sizes es = laid_out sizes (kinds_of es) (operands_of es)

-- of a file that opens with so many sizes: how many entries it has, which is its last size, their kinds, and their operands
abbrev pub entries_told : ℕ → List ℕ → ℕ
entries_told sizes bytes = number (drop (4 * (sizes - 1)) bytes)

abbrev pub kinds_told : ℕ → List ℕ → List ℕ
kinds_told sizes bytes = take (entries_told sizes bytes) (drop (4 * sizes) bytes)

abbrev pub operands_told : ℕ → List ℕ → List ℕ
operands_told sizes bytes = numbers (entries_told sizes bytes) (drop (4 * sizes + entries_told sizes bytes) bytes)

-- whether its length is the one that its sizes tell
abbrev pub fits : ℕ → List ℕ → Answer
fits sizes bytes =
    refuse_if File (nat_lt (length bytes) (4 * sizes) || not (length bytes == 4 * sizes + 5 * entries_told sizes bytes)) 9 (length bytes) (Ok tt)

-- whether arrays with so many places have room for so many entries, kinds first
abbrev pub holds : ℕ → ℕ → ℕ → Answer
holds entries kinds operands = refuse_if File (nat_lt kinds entries) 10 kinds (refuse_if File (nat_lt operands entries) 10 operands (Ok tt))

-- whether it can be read into arrays with so many places
abbrev pub reads : ℕ → List ℕ → ℕ → ℕ → Answer
reads sizes bytes kinds operands = and_then (fits sizes bytes) (holds (entries_told sizes bytes) kinds operands)
