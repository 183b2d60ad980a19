-- What one more statement adds to the facts above.
use Rattle.std.specs.Prelude.{ℕ, ◌+◌, List, [], ◌∷◌, ◌++◌, None, drop, map, length, option_to_list}
use Rattle.std.specs.Option.{option_map}
use Rattle.rh_task_text.specs.declared.statement.Statement.{Statement}
use Rattle.rh_rules.specs.declared.node.Scheme.TheVariants.{Plain}
use Rattle.rh_rules.specs.Tables.{put_all, number_of, promise_number}
use Rattle.rh_rules.specs.Facets.{Opens, Closes, Stays, turn, facets}
use Rattle.rh_rules.specs.declared.block.OpenBlock.{OpenBlock}
use Rattle.rh_rules.specs.Above.{Look, seen, opening_block, puts_by, nodes_by, await_local, local_made, steps_by, Facts, scheme_opened, checks_by, no_rows, with_row, closed_by}

abbrev pub blocks_after : ℕ → List OpenBlock → Statement → List OpenBlock
blocks_after count around s = elim (turn s) [
  | Opens ↦ opening_block count s ∷ around
  | Closes ↦ drop 1 around
  | Stays ↦ around
]

abbrev pub after : Look → Facts → Statement → Facts
after look f s = record {
  names = f.names ++ option_to_list (facets s).declared;
  promises = put_all (puts_by f.count f.blocks s) f.promises ++ option_to_list (facets s).promised;
  matrices = f.matrices ++ option_to_list (facets s).shaped;
  closed = f.closed ++ closed_by f.begun s;
  begun = elim (turn s) [ Opens ↦ option_map no_rows (facets s).shaped | Closes ↦ None | Stays ↦ option_map (with_row (facets s).row) f.begun ];
  blocks = blocks_after f.count f.blocks s;
  count = f.count + length (nodes_by look f s);
  nodes = f.nodes ++ nodes_by look f s;
  inputs = elim (turn s) [ Opens ↦ map (promise_number (seen look f.promises)) (facets s).task_awaits | Closes ↦ [] | Stays ↦ f.inputs ];
  locals = elim (turn s) [ Opens ↦ map (await_local (seen look f.promises)) (facets s).task_awaits | Closes ↦ [] | Stays ↦ f.locals ++ local_made f.matrices f.locals s ];
  drops = elim (turn s) [ Opens ↦ [] | Closes ↦ [] | Stays ↦ f.drops ++ map (number_of f.locals) (option_to_list (facets s).dropped) ];
  steps = elim (turn s) [ Opens ↦ [] | Closes ↦ [] | Stays ↦ f.steps ++ steps_by f.promises f.matrices f.inputs f.locals s ];
  scheme = elim (turn s) [ Opens ↦ scheme_opened s | Closes ↦ Plain | Stays ↦ f.scheme ];
  checks = elim (turn s) [ Opens ↦ [] | Closes ↦ [] | Stays ↦ f.checks ++ checks_by look f.promises f.matrices f.locals s ];
}
