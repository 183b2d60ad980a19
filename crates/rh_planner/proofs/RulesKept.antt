-- What each rule gives of a line that keeps it, by what planning asks of the line.
use Rattle.std.proofs.Common.{◌≡◌, ◌==◌, true, false, not, slice_index, length}
use Rattle.std.specs.Prelude.{◌||◌, ◌&&◌, nat_le, nat_lt}
use Rattle.std.specs.List.{list_any}
use Rattle.rh_task_text.specs.declared.statement.Statement.{Statement}
use Rattle.rh_rules.specs.Tables.{if_any, is_among, is_local, is_promise, promise_len, is_put, is_own, is_matrix}
use Rattle.rh_check.specs.Users.{HandedChecks}
use Rattle.rh_rules.specs.Facets.{facets}
use Rattle.rh_rules.specs.Above.{Facts, shape_used, lens_used, lens_read, made_len}
use Rattle.rh_rules.specs.Rules.{are_distinct, is_await, is_dropped, is_put_here, is_node_line, is_promise_over, is_bad_scheme, may_check, is_second_product, ends_uncorrected}
use Rattle.rh_planner.specs.Planned.{look_above}
use Rattle.rh_tables.proofs.Using.{not_false, neither}
use Rattle.rh_planner.proofs.Keeping.{Keeps}

-- the line keeps each rule
pub record Rules (f : Facts) (s : Statement) : Type 0 where
  pub fresh : if_any (λ name. is_among name f.names) (facets s).declared ≡ false
  pub distinct : are_distinct (facets s).awaited ≡ true
  pub awaited : list_any (λ q. not (is_promise f.promises q)) (facets s).awaited ≡ false
  pub put_to : if_any (λ q. not (is_promise f.promises q)) (facets s).put_to ≡ false
  pub unmade : if_any (is_local f.locals) (facets s).made ≡ false
  pub used : list_any (λ x. not (is_local f.locals x)) (facets s).used ≡ false
  pub matrix : if_any (λ a. not (is_matrix f.matrices a)) (facets s).matrix ≡ false
  pub checked : if_any (λ q. not (is_put_here f q)) (facets s).checked ≡ false
  pub read : list_any (λ q. not (is_await f q)) (facets s).inputs ≡ false
  pub schemed : if_any is_bad_scheme (facets s).scheme ≡ false
  pub may_check : if_any (λ q. not (may_check f.scheme)) (facets s).checked ≡ false
  pub one_product : is_second_product f s ≡ false
  pub corrected : ends_uncorrected f s ≡ false
  pub in_order : list_any (λ q. not (is_put f.promises q)) (facets s).awaited ≡ false
  pub unowned : if_any (λ q. is_own f.promises q || is_put f.promises q) (facets s).put_to ≡ false
  pub suited : if_any (λ q. not ((facets s).suits (shape_used f.matrices s) (promise_len f.promises q) (lens_read f.locals s))) (facets s).checked ≡ false
  pub as_long : if_any (λ q. not (slice_index (lens_used f.locals s) 0 == promise_len f.promises q)) (facets s).put_to ≡ false
  pub fits : (facets s).fits (shape_used f.matrices s) (lens_used f.locals s) ≡ true
  pub dropped : if_any (λ q. not (is_await f q) || is_dropped f q) (facets s).dropped ≡ false
  pub node_room : (is_node_line f.blocks s && nat_le 16384 f.count) ≡ false
  pub promise_room : if_any (is_promise_over f.promises) (facets s).promised ≡ false
  pub matrix_room : if_any (λ m. nat_le 256 (length f.matrices)) (facets s).shaped ≡ false
  pub local_room : if_any (λ x. nat_lt 4096 (made_len f.matrices f.locals s)) (facets s).made ≡ false

pub rules : (handed : HandedChecks) (f : Facts) (s : Statement) → Keeps (look_above handed) f s → Rules f s
rules handed f s keeps =
    let (twice, unmade) = neither (if_any (λ name. is_among name f.names) (facets s).declared || not (are_distinct (facets s).awaited)) (if_any (is_local f.locals) (facets s).made) keeps.once in
    let (fresh, distinct) = neither (if_any (λ name. is_among name f.names) (facets s).declared) (not (are_distinct (facets s).awaited)) twice in
    let a = list_any (λ q. not (is_promise f.promises q)) (facets s).awaited in
    let b = if_any (λ q. not (is_promise f.promises q)) (facets s).put_to in
    let c = if_any (λ q. not (is_put_here f q)) (facets s).checked in
    let d = list_any (λ q. not (is_await f q)) (facets s).inputs in
    let u = list_any (λ x. not (is_local f.locals x)) (facets s).used in
    let (known5, matrix) = neither (a || b || c || d || u) (if_any (λ m. not (is_matrix f.matrices m)) (facets s).matrix) keeps.known in
    let (known4, used) = neither (a || b || c || d) u known5 in
    let (known3, read) = neither (a || b || c) d known4 in
    let (known2, checked) = neither (a || b) c known3 in
    let (awaited, put_to) = neither a b known2 in
    let (suited, put_fits) = neither (if_any (λ q. not ((facets s).suits (shape_used f.matrices s) (promise_len f.promises q) (lens_read f.locals s))) (facets s).checked) (if_any (λ q. not (slice_index (lens_used f.locals s) 0 == promise_len f.promises q)) (facets s).put_to || not ((facets s).fits (shape_used f.matrices s) (lens_used f.locals s))) keeps.fitting in
    let (as_long, fits) = neither (if_any (λ q. not (slice_index (lens_used f.locals s) 0 == promise_len f.promises q)) (facets s).put_to) (not ((facets s).fits (shape_used f.matrices s) (lens_used f.locals s))) put_fits in
    let (held, used_held) = neither (if_any (λ q. not (is_await f q) || is_dropped f q) (facets s).dropped || list_any (is_dropped f) (facets s).inputs) (list_any (is_dropped f) (facets s).used) keeps.held in
    let (dropped, read_held) = neither (if_any (λ q. not (is_await f q) || is_dropped f q) (facets s).dropped) (list_any (is_dropped f) (facets s).inputs) held in
    let may = if_any (λ q. not (may_check f.scheme)) (facets s).checked in
    let (schemed, misschemed) = neither (if_any is_bad_scheme (facets s).scheme) (may || (is_second_product f s || ends_uncorrected f s)) keeps.schemed in
    let (checks, products) = neither may (is_second_product f s || ends_uncorrected f s) misschemed in
    let (one_product, corrected) = neither (is_second_product f s) (ends_uncorrected f s) products in
    let (within2, local_room) = neither ((is_node_line f.blocks s && nat_le 16384 f.count) || if_any (is_promise_over f.promises) (facets s).promised || if_any (λ m. nat_le 256 (length f.matrices)) (facets s).shaped) (if_any (λ x. nat_lt 4096 (made_len f.matrices f.locals s)) (facets s).made) keeps.within in
    let (within, matrix_room) = neither ((is_node_line f.blocks s && nat_le 16384 f.count) || if_any (is_promise_over f.promises) (facets s).promised) (if_any (λ m. nat_le 256 (length f.matrices)) (facets s).shaped) within2 in
    let (node_room, promise_room) = neither (is_node_line f.blocks s && nat_le 16384 f.count) (if_any (is_promise_over f.promises) (facets s).promised) within in
    record {
      fresh = fresh;
      distinct = not_false (are_distinct (facets s).awaited) distinct;
      awaited = awaited;
      put_to = put_to;
      unmade = unmade;
      used = used;
      matrix = matrix;
      checked = checked;
      read = read;
      schemed = schemed;
      may_check = checks;
      one_product = one_product;
      corrected = corrected;
      in_order = keeps.in_order;
      unowned = keeps.unowned;
      suited = suited;
      as_long = as_long;
      fits = not_false ((facets s).fits (shape_used f.matrices s) (lens_used f.locals s)) fits;
      dropped = dropped;
      node_room = node_room;
      promise_room = promise_room;
      matrix_room = matrix_room;
      local_room = local_room;
    }
