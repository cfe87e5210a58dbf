-- A kind is known by its code.
use Rattle.std.proofs.Common.{◌≡◌, ℕ, false, eqb, List, [], ◌∷◌, get_or, sym, refl, ap, ◌∙◌, ne_eqb}
use Rattle.table.specs.Kinds.{code_of}
use Rattle.table.specs.declared.kind.Kind.{Kind}
use Rattle.table.specs.declared.kind.Kind.TheVariants.{True, False, Atom, Equal, Not, And, Or, Imply, Forall, Exists, Object, Variable, When, Fact, TypeSet, Predicate, Operator, Parameter, Action, StartsTrue, StartsFalse, Always}

-- the kinds in the order of their codes
abbrev kinds : List Kind
kinds = True ∷ False ∷ Atom ∷ Equal ∷ Not ∷ And ∷ Or ∷ Imply ∷ Forall ∷ Exists ∷ Object ∷ Variable ∷ When ∷ Fact ∷ TypeSet ∷ Predicate ∷ Operator ∷ Parameter ∷ Action ∷ StartsTrue ∷ StartsFalse ∷ Always ∷ []

-- a kind stands at its code
stands : (k : Kind) → get_or kinds (code_of k) True ≡ k
stands True = refl
stands False = refl
stands Atom = refl
stands Equal = refl
stands Not = refl
stands And = refl
stands Or = refl
stands Imply = refl
stands Forall = refl
stands Exists = refl
stands Object = refl
stands Variable = refl
stands When = refl
stands Fact = refl
stands TypeSet = refl
stands Predicate = refl
stands Operator = refl
stands Parameter = refl
stands Action = refl
stands StartsTrue = refl
stands StartsFalse = refl
stands Always = refl

-- kinds with the same code are the same
pub same_code : (a b : Kind) → code_of a ≡ code_of b → a ≡ b
same_code a b e = sym (stands a) ∙ ap (λ n. get_or kinds n True) e ∙ stands b

-- different kinds have different codes
pub other_code : (a b : Kind) → (a ≡ b → ⊥) → code_of a ≡ code_of b → ⊥
other_code a b h e = h (same_code a b e)

-- the code of a kind that was found
pub code_is : (a b : Kind) (n : ℕ) → code_of a ≡ n → a ≡ b → code_of b ≡ n
code_is a b n e h = sym (ap code_of h) ∙ e

-- the codes of different kinds are told apart by a test
pub apart : (a b : Kind) → (a ≡ b → ⊥) → eqb (code_of a) (code_of b) ≡ false
apart a b h = ne_eqb (code_of a) (code_of b) (other_code a b h)
