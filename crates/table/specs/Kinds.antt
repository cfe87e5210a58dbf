-- The codes of the kinds.
use Rattle.std.specs.Prelude.{ℕ}
use Rattle.table.specs.declared.kind.Kind.{Kind}
use Rattle.table.specs.declared.kind.Kind.TheVariants.{True, False, Atom, Equal, Not, And, Or, Imply, Forall, Exists, Object, Variable, When, Fact, TypeSet, Predicate, Operator, Parameter, Action, StartsTrue, StartsFalse, Always}

-- the code of a kind
abbrev pub code_of : Kind → ℕ
code_of True = 0
code_of False = 1
code_of Atom = 2
code_of Equal = 3
code_of Not = 4
code_of And = 5
code_of Or = 6
code_of Imply = 7
code_of Forall = 8
code_of Exists = 9
code_of Object = 10
code_of Variable = 11
code_of When = 12
code_of Fact = 13
code_of TypeSet = 14
code_of Predicate = 15
code_of Operator = 16
code_of Parameter = 17
code_of Action = 18
code_of StartsTrue = 19
code_of StartsFalse = 20
code_of Always = 21
