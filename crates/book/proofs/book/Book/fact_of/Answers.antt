use Rattle.table.proofs.Lengths.{operands_long}
use Rattle.std.proofs.Common.{◌≡◌, ℕ, Some, None, Option, sym, ap, ◌∙◌, arith, rules}
use Rattle.std.specs.Option.{MatchOption, IsSomeAnd}
use Rattle.std.proofs.lemmas.List.{length-take-le}
use Rattle.book.specs.Held.{held}
use Rattle.book.proofs.Grouped.{groups_inside, relevant_rises, fact_is, fact_small}
use Rattle.book.proofs.book.Book.fact_of.Goals as goal

pub slice_bounds-relevant-end : goal.slice_bounds-relevant-end
slice_bounds-relevant-end c =
    let b = c.args.self.now in
    let g = groups_inside (held b) b.formed (operands_long b.table.entries b.table.whole) in
    sym (length-take-le b.table.sizes.relevant b.table.entries.operands.now (omega arith))

pub invariant_of-relevant : goal.invariant_of-relevant
invariant_of-relevant c = let b = c.args.self.now in record { rises = relevant_rises (held b) b.formed (operands_long b.table.entries b.table.whole) }

pub map-requires : goal.map-requires
map-requires c =
    let b = c.args.self.now in
    λ x e _. omega (arith, fact_small (held b) b.formed (operands_long b.table.entries b.table.whole) c.args.atom x (sym e ∙ c.place_of.ensures), b.table.few, b.table.atoms)

as_cast : (P : ℕ → ℕ → Type 0) → ((x y : ℕ) → P x y → y ≡ x) → (o r : Option ℕ) → MatchOption o (r ≡ None) (λ x. IsSomeAnd r (P x)) → r ≡ o
as_cast P p None r h = h
as_cast P p (Some x) (Some y) h = ap Some (p x y h)
as_cast P p (Some x) None h = absurd h

pub returns : goal.returns
returns c =
    let b = c.args.self.now in
    as_cast _ (λ x y h. search rules) c.place_of.result c.map.result c.map.ensures.cases ∙ c.place_of.ensures ∙ fact_is (held b) b.formed (operands_long b.table.entries b.table.whole) c.args.atom
