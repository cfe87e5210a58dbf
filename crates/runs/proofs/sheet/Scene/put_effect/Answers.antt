use Rattle.std.proofs.Common.{◌≡◌, ℕ, ◌+◌, ◌^◌, ◌<◌, ◌≤◌, length, take, drop, fold, ap, ◌∙◌, subst, arith}
use Rattle.model.specs.Trees.{Effect}
use Rattle.runs.specs.declared.sheet.Scene.{Scene}
use Rattle.runs.specs.declared.window.Window.{Window}
use Rattle.runs.specs.Effects.{EffectIn, literals_in}
use Rattle.protocol.specs.Shown.{shown}
use Rattle.runs.specs.Shown.{bound}
use Rattle.adl.specs.Held.{held, tree_of}
use Rattle.runs.specs.Windows.{offered, kept}
use Rattle.protocol.specs.Steps.{put_literals}
use Rattle.runs.proofs.Bounds.{few_literals}
use Rattle.adl_theorems.proofs.Standing.{same_objects}
use Rattle.runs.proofs.Filling.{fresh_filled}
use Rattle.runs.proofs.Puts.{put_window, put_last, full}
use Rattle.runs.proofs.sheet.Scene.put_effect.Given as given
use Rattle.runs.proofs.sheet.Scene.put_effect.Goals as goal

-- what a fresh window holds after a walk, by the scene as it was at first
filled : (w v : Window) (x y : Scene) (at from n : ℕ) → (w.len ≡ 0) × (w.skip ≡ from) × (length w.items ≡ 64) → x ≡ y
    → ((e : Effect) (j : ℕ) → EffectIn x at e j → (v ≡ fold offered w (literals_in x e)) × (n ≡ j))
    → (e : Effect) (j : ℕ) → EffectIn y at e j → (v.len ≤ 64) × (v.len ≡ length (kept v)) × (kept v ≡ take 64 (drop from (literals_in y e)))
filled w v x y at from n f q h e j s =
    let g = subst (λ (z : Scene). (e : Effect) (j : ℕ) → EffectIn z at e j → (v ≡ fold offered w (literals_in z e)) × (n ≡ j)) q h in
    fresh_filled w v from (literals_in y e) f.2 f.0 f.1 (g e j s).0

-- after a full window the number of the next literal is still small
room : (g : given.Over) (c : goal.Else-window-lt64 g) → c.loop-at.from + 64 < 2 ^ 40
room g c =
    let p = c.requires in
    let A = c.args.self.now in
    let k = A.sheet.task.now in
    let f = filled c.fresh-window.result c.walk.new.window c.loop-at.self A c.args.at c.loop-at.from c.walk.result c.fresh-window.ensures c.loop-at.invariant.0 c.walk.ensures.walked p.0 p.1 p.2 in
    let h = full (literals_in A p.0) c.loop-at.from (kept c.walk.new.window) f.2 (omega (arith, f.1)) in
    let m = few_literals p.2 k.table.short (tree_of k) (omega (arith, same_objects (held k) k.formed, k.table.objects)) (shown A.image.now) (bound A.sheet) in
    omega arith

pub put_window-requires : goal.put_window-requires
put_window-requires g c =
    let p = c.requires in
    (filled c.fresh-window.result c.walk.new.window c.loop-at.self c.args.self.now c.args.at c.loop-at.from c.walk.result c.fresh-window.ensures c.loop-at.invariant.0 c.walk.ensures.walked p.0 p.1 p.2).0

pub overflow_add-from : goal.overflow_add-from
overflow_add-from g c = let r = room g c in omega arith

pub returns-then-window-lt64 : goal.returns-then-window-lt64
returns-then-window-lt64 g c =
    let m = g.S.Store in
    let inv = c.loop-at.invariant in
    let r = c.walk.new.window in
    record {
      same = c.walk.ensures.same ∙ inv.0;
      size = c.put_window.ensures.size ∙ inv.1;
      set = λ e j h.
          let f = filled c.fresh-window.result r c.loop-at.self c.args.self.now c.args.at c.loop-at.from c.walk.result c.fresh-window.ensures inv.0 c.walk.ensures.walked e j h in
          put_last (m.extent c.args.store.now) c.args.adds _ c.loop-at.from (m.facts c.args.store.now) (m.facts c.loop-at.store) _ (kept r) (inv.2 e j h) f.2
          (c.put_window.ensures.set ∙ ap (λ (n : ℕ). put_literals n c.args.adds (kept r) (m.facts c.loop-at.store)) inv.1)
          (omega (arith, f.1));
    }

pub loop-at-preserved : goal.loop-at-preserved
loop-at-preserved g c =
    let m = g.S.Store in
    let inv = c.loop-at.invariant in
    let r = c.walk.new.window in (
      c.walk.ensures.same ∙ inv.0,
      c.put_window.ensures.size ∙ inv.1,
      λ e j h.
          let f = filled c.fresh-window.result r c.loop-at.self c.args.self.now c.args.at c.loop-at.from c.walk.result c.fresh-window.ensures inv.0 c.walk.ensures.walked e j h in
          put_window (m.extent c.args.store.now) c.args.adds _ c.loop-at.from (m.facts c.args.store.now) (m.facts c.loop-at.store) _ (kept r) (inv.2 e j h) f.2
          (c.put_window.ensures.set ∙ ap (λ (n : ℕ). put_literals n c.args.adds (kept r) (m.facts c.loop-at.store)) inv.1),
    )
