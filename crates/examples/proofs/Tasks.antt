-- Loading, by computing.
use Rattle.std.proofs.Common.{refl, ap, arith}
use Rattle.adl.specs.Reads.{task, formula, effect, consequent, operator_places}
use Rattle.adl.specs.Loads.{task_of}
use Rattle.adl_theorems.proofs.Sound.{what_loads_was_written}
use Rattle.worked.proofs.Cases.{come_out}
use Rattle.worked.specs.Tables.{task_table}
use Rattle.examples.specs.Loading.{LoadingByExample, PartsByExample, TasksInNoTable}

pub loading : LoadingByExample
unfolding task formula effect consequent
loading = record {
  good = refl;
  no_object = refl;
  no_entry = refl;
  kinds_short = refl;
  not_permitted = refl;
  too_few = refl;
  too_many = refl;
  bit_too_high = refl;
  no_predicate = refl;
  too_deep = refl;
  deep_enough = refl;
  too_long = refl;
  short_enough = refl;
  too_many_atoms = refl;
  atoms_enough = refl;
  written = λ c. what_loads_was_written (task_table c).sizes (task_table c).kinds (task_table c).operands (come_out c).loads;
}

pub parts : PartsByExample
unfolding task formula effect consequent operator_places
parts = record {
  stands = refl;
  stands_not = refl;
  blank_task = refl;
  argument = refl;
  goal = refl;
  operators = refl;
  places = refl;
  held_task = λ t same. ap task_of same;
}

pub in_no_table : TasksInNoTable
in_no_table = record {
  objects = λ w. absurd (omega (arith, w.some_object));
  parameters = λ w. absurd (omega (arith, w.each_operator.0.parameters));
  predicate = λ w. absurd (omega (arith, w.goal.predicate));
}
