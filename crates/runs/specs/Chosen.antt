-- Lists of objects for parameters, each another than those before it.
use Rattle.std.specs.Prelude.{◌≡◌, ℕ, ◌-◌, ◌++◌, cond, List, [], ◌∷◌, map, take, drop, replicate}
use Rattle.model.specs.Lists.{gather, has}
use Rattle.model.specs.Trees.{Task, members}

-- the first n of an array's objects
abbrev pub chosen : ℕ → List ℕ → List ℕ
chosen n os = take n os

-- the places of an array behind the first n hold 0
abbrev pub Unused : ℕ → List ℕ → Type 0
Unused n os = drop n os ≡ replicate (4 - n) 0

-- the lists of objects of these types, all different and different from those before, rising
abbrev pub choices_from : Task → List ℕ → List ℕ → List (List ℕ)
choices_from t before [] = [] ∷ []
choices_from t before (ty ∷ tys) = gather (λ o. cond (has o before) [] (map (λ os. o ∷ os) (choices_from t (before ++ (o ∷ [])) tys))) (members t ty)
