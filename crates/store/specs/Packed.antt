-- A set as packed bits.
use Rattle.std.specs.Prelude.{ℕ, ◌*◌, ◌/◌, ◌%◌, ◌^◌, min, ◌&&◌, List, ◌++◌, length, drop, replicate, ◌==◌, nat_lt, slice_index}
use Rattle.store.specs.declared.bits.Bits.{Bits}
use Rattle.model.specs.Meaning.{State}

-- eight facts to a byte, and 65,536 at most
abbrev pub bit_size : List ℕ → ℕ
bit_size bytes = min (8 * length bytes) 65536

-- fact k at bit k mod 8 of byte k div 8
abbrev pub bit_facts : List ℕ → State
bit_facts bytes = λ k. nat_lt k 65536 && slice_index bytes (k / 8) / 2 ^ (k % 8) % 2 == 1

-- the size of a store over bytes
abbrev pub size_of : Bits → ℕ
size_of b = bit_size b.bytes.now

-- the set that a store over bytes holds
abbrev pub facts_of : Bits → State
facts_of b = bit_facts b.bytes.now

-- the bytes without a fact: the first 8,192 are 0, and the rest is as it was
abbrev pub cleared : List ℕ → List ℕ
cleared bytes = let n = min (length bytes) 8192 in replicate n 0 ++ drop n bytes
