use Rattle.std.proofs.Common.{◌≡◌, ℕ, ◌+◌, ◌*◌, ◌<◌, List, map, length, get_or, take, sym, ap, ◌∙◌, subst, arith}
use lib.ListN.{length-map}
use Rattle.std.proofs.lemmas.List.{map_more, take_all}
use Rattle.model.specs.Forming.{Within}
use Rattle.model.specs.Meaning.{object_of, atom_of}
use Rattle.model.specs.Trees.{Term, object, digits}
use Rattle.model.proofs.Numbers.{within_bind, number_known}
use Rattle.adl.specs.declared.task.Task.{Task}
use Rattle.adl.specs.Tables.{Table, arity}
use Rattle.adl.specs.Held.{held, tree_of}
use Rattle.runs.specs.Shown.{bound}
use Rattle.runs.specs.Standing.{TermAt, TermsAt}
use Rattle.runs.proofs.Counting.{digits_push, digit_small, few_digits}
use Rattle.adl_theorems.proofs.Standing.{same_objects, arity_at, arity_small, arities_length, atoms_bounded}
use Rattle.runs.proofs.Shapes.{as_many_terms, each_term}
use Rattle.runs.proofs.sheet.Sheet.atom_number.Goals as goal

-- fewer than three arguments come before another
before : (t : Task) (p k r : ℕ) → p < t.table.sizes.predicates → k < r → r ≡ arity (held t) p → k < 3
before t p k r h l e = omega (arith, arity_small (held t) t.formed p h)

-- the next term
next_term : {t : Table} {v p i : ℕ} {ts : List Term} {j : ℕ} → TermsAt t v p i ts j → (k r : ℕ) → k < r → r ≡ arity t p → TermAt t v (i + k) (get_or ts k (object 0))
next_term s k r l e = each_term s k (omega arith)

pub overflow_mul-digits : goal.overflow_mul-digits
overflow_mul-digits c =
    let t = c.args.self.now.task.now in
    let b = before t c.args.predicate c.loop-k.k c.arity-k-end.result c.requires.2.predicate c.loop-k-test.true c.arity-k-end.ensures in
    omega (arith, few_digits c.loop-k.digits t.table.sizes.objects c.loop-k.k c.loop-k.invariant.0 (omega arith) b)

pub term-requires : goal.term-requires
term-requires c =
    let p = c.requires in
    (get_or p.0 c.loop-k.k (object 0), next_term p.2 c.loop-k.k c.arity-k-end.result c.loop-k-test.true c.arity-k-end.ensures)

pub overflow_add-digits : goal.overflow_add-digits
overflow_add-digits c =
    let t = c.args.self.now.task.now in
    let b = before t c.args.predicate c.loop-k.k c.arity-k-end.result c.requires.2.predicate c.loop-k-test.true c.arity-k-end.ensures in
    omega (arith, few_digits c.loop-k.digits t.table.sizes.objects c.loop-k.k c.loop-k.invariant.0 (omega arith) b, c.term.ensures.small)

pub loop-k-preserved : goal.loop-k-preserved
loop-k-preserved c =
    let n = c.args.self.now.task.now.table.sizes.objects in
    let k = c.loop-k.k in
    let of = object_of (bound c.args.self.now) in (
      digit_small c.loop-k.digits n c.term.result k c.loop-k.invariant.0 (omega arith) c.term.ensures.small,
      λ ts j s.
          let x = get_or ts k (object 0) in
          let l : k < length ts = omega (arith, as_many_terms s, c.arity-k-end.ensures) in
          let e : c.term.result ≡ of x = c.term.ensures.object x (next_term s k c.arity-k-end.result c.loop-k-test.true c.arity-k-end.ensures) in
          let i = c.loop-k.invariant.1 ts j s in
          let m = sym (map_more of ts k (object 0) l) in (
            ap (λ d. d * n + c.term.result) i.0 ∙ ap (λ o. digits n (map of (take k ts)) * n + o) e ∙ sym (digits_push n (map of (take k ts)) (of x)) ∙ ap (digits n) m,
            subst (Within n) m (within_bind n (map of (take k ts)) (of x) i.1 (omega (arith, e, c.term.ensures.small))),
          ),
    )

-- the digits of all arguments, and each is an object
all_digits : (c : goal.After-first_atom) (ts : List Term) (j : ℕ) → TermsAt (held c.args.self.now.task.now) c.args.self.now.depth c.args.predicate c.args.at ts j
    → (c.loop-k.digits ≡ digits (tree_of c.args.self.now.task.now).objects (map (object_of (bound c.args.self.now)) ts))
    × Within (tree_of c.args.self.now.task.now).objects (map (object_of (bound c.args.self.now)) ts)
all_digits c ts j s =
    let t = c.args.self.now.task.now in
    let of = object_of (bound c.args.self.now) in
    let e = take_all c.loop-k.k ts (omega (arith, as_many_terms s, c.arity-k-end.ensures)) in
    let o = sym (same_objects (held t) t.formed) in
    let D : ℕ → List Term → Type 0 = λ n xs. (c.loop-k.digits ≡ digits n (map of xs)) × Within n (map of xs) in
    subst (λ n. D n ts) o (subst (D t.table.sizes.objects) e (c.loop-k.invariant.1 ts j s))

-- the number that was found is that of the atom
found : (c : goal.After-first_atom) (ts : List Term) (j : ℕ) → TermsAt (held c.args.self.now.task.now) c.args.self.now.depth c.args.predicate c.args.at ts j
    → c.first_atom.result + c.loop-k.digits ≡ atom_of (tree_of c.args.self.now.task.now) (bound c.args.self.now) c.args.predicate ts
found c ts j s = omega (arith, c.first_atom.ensures, (all_digits c ts j s).0)

-- it is below the number of atoms
small : (c : goal.After-first_atom) → c.first_atom.result + c.loop-k.digits < c.args.self.now.task.now.atoms
small c =
    let t = c.args.self.now.task.now in
    let p = c.requires in
    let s = p.2 in
    let of = object_of (bound c.args.self.now) in
    let k = number_known (tree_of t) c.args.predicate (map of p.0) (omega (arith, s.predicate, arities_length (held t) t.formed))
    (length-map p.0 of ∙ as_many_terms s ∙ sym (arity_at (held t) t.formed c.args.predicate s.predicate)) (all_digits c p.0 p.1 s).1 in
    omega (arith, found c p.0 p.1 s, k.0, t.counted)

pub overflow_add-result : goal.overflow_add-result
overflow_add-result c = omega (arith, small c, atoms_bounded (held c.args.self.now.task.now) c.args.self.now.task.now.formed, c.args.self.now.task.now.counted)

pub returns : goal.returns
returns c = record { small = small c; atom = found c }
