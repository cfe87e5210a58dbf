use Rattle.std.proofs.Common.{◌∙◌, arith}
use Rattle.book.specs.Reads.{clause}
use Rattle.book_runs.specs.Scenes.{state_in, table_in}
use Rattle.book_runs.proofs.Reading.{first, first_stands}
use Rattle.book_runs.proofs.Effects.{put_part}
use Rattle.book_runs.proofs.scene.Scene.put_effect.Goals as goal

pub put_clause-next-requires : goal.put_clause-next-requires
put_clause-next-requires g c = first_stands (clause (table_in c.args.self.now)) c.loop.counter c.loop.next (omega arith) c.loop.invariant.stand

pub loop-preserved : goal.loop-preserved
loop-preserved g c =
    let M = g.S.Store in
    let t = table_in c.args.self.now in
    let m = c.loop.counter in
    let i = c.loop.next in
    let j = c.put_clause-next.result in
    let f = first (clause t) m i j (omega arith) c.put_clause-next.ensures.end c.loop.invariant.stand in
    record {
      size = c.put_clause-next.ensures.size ∙ c.loop.invariant.size;
      stand = f.others;
      set = put_part _ _ c.args.adds (state_in c.args.self.now) t m i j f (M.facts c.loop.store) _ c.loop.invariant.size c.put_clause-next.ensures.set ∙ c.loop.invariant.set;
    }
