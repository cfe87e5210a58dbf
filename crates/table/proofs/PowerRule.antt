-- A table that passes the computed test has n to the power k at 5 * n + k.
use Rattle.std.proofs.Common.{◌≡◌, ℕ, ◌+◌, ◌*◌, ◌/◌, ◌%◌, ◌^◌, ◌<◌, ◌≤◌, T, List, length, get_or, arith, eqb→eq}
use Rattle.table.specs.Powers.{right}
use Rattle.table.proofs.Table.{every, at}

pub powers_at : (xs : List ℕ) (n k : ℕ) → T (every right 0 xs) → length xs ≡ 165 → n ≤ 32 → k ≤ 4 → get_or xs (5 * n + k) 0 ≡ n ^ k
powers_at xs n k t l hn hk =
    let q : (5 * n + k) / 5 ≡ n = omega arith in
    let m : (5 * n + k) % 5 ≡ k = omega arith in
    let b : 5 * n + k < length xs = omega arith in
    let e = eqb→eq (get_or xs (5 * n + k) 0) (((5 * n + k) / 5) ^ ((5 * n + k) % 5)) (at right xs t (5 * n + k) b) in
    rw (q, m) at e
