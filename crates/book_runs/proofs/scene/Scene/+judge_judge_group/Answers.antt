use Rattle.std.proofs.Common.{◌∙◌, arith}
use Rattle.book.specs.Reads.{ground}
use Rattle.book_runs.specs.Scenes.{state_in, table_in}
use Rattle.protocol.specs.Junctions.{joining}
use Rattle.book_runs.proofs.Reading.{first}
use Rattle.book_runs.proofs.Standing.{deep, and_stands, and_ends, and_values, or_stands, or_ends, or_values, false_value, single_ends, left_to}
use Rattle.book_runs.proofs.scene.Scene.+judge_judge_group.Goals as goal

pub judge-judge_group-requires : goal.judge-judge_group-requires
judge-judge_group-requires t c = (grind (arith, deep), and_stands _ _ _ c.requires c.in-And.ensures)

pub judge-judge_group-requires-in-Or : goal.judge-judge_group-requires-in-Or
judge-judge_group-requires-in-Or t c = (grind (arith, deep), or_stands _ _ _ c.requires c.in-Or.ensures)

pub judge-returns-in-And : goal.judge-returns-in-And
judge-returns-in-And t c =
    record {
      value = c.judge_group.ensures.value ∙ and_values _ _ _ c.requires c.in-And.ensures (state_in c.args.self.now);
      end = c.judge_group.ensures.end ∙ and_ends _ _ _ c.requires c.in-And.ensures;
    }

pub judge-returns-in-Or : goal.judge-returns-in-Or
judge-returns-in-Or t c =
    record {
      value = c.judge_group-in-Or.ensures.value ∙ or_values _ _ _ c.requires c.in-Or.ensures (state_in c.args.self.now);
      end = c.judge_group-in-Or.ensures.end ∙ or_ends _ _ _ c.requires c.in-Or.ensures;
    }

pub judge-returns-in_default : goal.judge-returns-in_default
judge-returns-in_default t c =
    let h = c.in_default in
    record {
      value = false_value _ _ _ c.requires (state_in c.args.self.now) _ c.kind_at.ensures h.not-True h.not-Fact h.not-Not h.not-And h.not-Or;
      end = single_ends _ _ _ c.requires _ c.kind_at.ensures h.not-Not h.not-And h.not-Or;
    }

pub judge_group-loop-left-preserved : goal.judge_group-loop-left-preserved
judge_group-loop-left-preserved t c =
    let s = state_in c.args.self.now in
    let read = ground (table_in c.args.self.now) c.args.levels in
    let f = first read c.loop-left.left c.loop-left.next c.judge-part.result.1 (omega arith) c.judge-part.ensures.end c.loop-left.invariant.stand in
    record {
      stand = f.others;
      decide = left_to read _ _ _ s (joining c.args.junction) _ c.judge-part.result.0 c.of_none-undecided.ensures f c.judge-part.ensures.value c.if-part-undecided.false ∙ c.loop-left.invariant.decide;
      end = f.ends ∙ c.loop-left.invariant.end;
    }
