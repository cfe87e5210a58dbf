use Rattle.std.proofs.Common.{◌≡◌, ℕ, ◌-◌, ◌^◌, take}
use Rattle.model.specs.Trees.{Effect}
use Rattle.runs.specs.Effects.{EffectIn, literals_in}
use Rattle.protocol.specs.Steps.{put_literals}
use Rattle.runs.proofs.sheet.Scene.put_effect.Given as goal

abbrev pub invariant-loop-at : goal.invariant-loop-at
invariant-loop-at g l =
    let m = g.S.Store in
    (l.self ≡ l.initial.self)
    × (m.extent l.store ≡ m.extent l.initial.store)
    × ((e : Effect) (j : ℕ) → EffectIn l.initial.self l.at e j →
    m.facts l.store ≡ put_literals (m.extent l.initial.store) l.adds (take l.from (literals_in l.initial.self e)) (m.facts l.initial.store))

abbrev pub decreases-loop-at : goal.decreases-loop-at
decreases-loop-at g l = 2 ^ 64 - l.from
