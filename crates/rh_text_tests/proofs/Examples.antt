-- Worked examples of the definitions of a program text: what each form says, and lines with their reasons.
use Rattle.std.proofs.Common.{◌≡◌, [], ◌∷◌, Some, None, true, false, refl}
use Rattle.std.specs.Prelude.{codes}
use Rattle.std.specs.Fmt.{digits}
use Rattle.rh_words.specs.Text.{words_of, is_printable, header_reason}
use Rattle.rh_words.specs.Values.{line_text, pair_of}
use Rattle.rh_words.specs.declared.reason.Reason.TheVariants.{Header, Statement as BadStatement, BadName, BadNumber, Count, EndExtra, Limit}
use Rattle.rh_task_text.specs.LineReasons.{words_reason, statement_reason, kind_chosen}
use Rattle.rh_task_text.specs.Blocks.{open_blocks}
use Rattle.rh_task_text.specs.Statements.{said}
use Rattle.rh_task_text.specs.declared.form.Block.TheVariants.{TaskBlock}
use Rattle.rh_task_text.specs.declared.statement.SchemeText.TheVariants.{Plain, Replicate, Replay, Abft}
use Rattle.rh_task_text.specs.declared.statement.Statement.TheVariants.{Promise, Matrix, Row, Task, Finish, Group, End, LetLit, LetGen, LetAdd, LetSub, LetMul, LetScale, LetShift, LetCut, LetJoin, LetSum, LetCount, LetStencil1, LetStencil2, LetProduct, Put, DropAwait, CheckRange, CheckTotal, CheckLinear, CheckConserve, CheckConserve2, CheckProduct, CheckUser}

-- what each form says, with its names and numbers in their order

pub a_promise : line_text (said (Promise (codes "p") 3 false)) ≡ codes "promise p 3"
unfolding digits
a_promise = refl

pub a_temp_promise : line_text (said (Promise (codes "p") 3 true)) ≡ codes "promise p 3 temp"
unfolding digits
a_temp_promise = refl

pub a_matrix : line_text (said (Matrix (codes "m") 2 7)) ≡ codes "matrix m 2 7"
unfolding digits
a_matrix = refl

pub a_row : line_text (said (Row (0 ∷ 6 ∷ []) (5 ∷ 4 ∷ []))) ≡ codes "row 0:5 6:4"
unfolding digits
a_row = refl

pub a_plain_task : line_text (said (Task (codes "t") Plain [])) ≡ codes "task t plain"
unfolding digits
a_plain_task = refl

pub a_replicated_task : line_text (said (Task (codes "t") Replicate (codes "p" ∷ []))) ≡ codes "task t replicate await p"
unfolding digits
a_replicated_task = refl

pub a_replayed_task : line_text (said (Task (codes "t") (Replay 8) (codes "p" ∷ codes "q" ∷ []))) ≡ codes "task t replay 8 await p q"
unfolding digits
a_replayed_task = refl

pub a_corrected_task : line_text (said (Task (codes "t") Abft (codes "q" ∷ codes "p" ∷ []))) ≡ codes "task t abft await q p"
unfolding digits
a_corrected_task = refl

pub a_scope : line_text (said (Finish (codes "f"))) ≡ codes "finish f"
unfolding digits
a_scope = refl

pub a_group : line_text (said (Group (codes "g") (codes "p" ∷ codes "q" ∷ []))) ≡ codes "group g await p q"
unfolding digits
a_group = refl

pub an_end : line_text (said End) ≡ codes "end"
unfolding digits
an_end = refl

pub a_lit : line_text (said (LetLit (codes "x") (3 ∷ 1 ∷ 2 ∷ []))) ≡ codes "let x lit 3 1 2"
unfolding digits
a_lit = refl

pub a_gen : line_text (said (LetGen (codes "x") 5 7 11)) ≡ codes "let x gen 5 7 11"
unfolding digits
a_gen = refl

pub an_add : line_text (said (LetAdd (codes "x") (codes "a") (codes "b"))) ≡ codes "let x add a b"
unfolding digits
an_add = refl

pub a_sub : line_text (said (LetSub (codes "x") (codes "a") (codes "b"))) ≡ codes "let x sub a b"
unfolding digits
a_sub = refl

pub a_mul : line_text (said (LetMul (codes "x") (codes "a") (codes "b"))) ≡ codes "let x mul a b"
unfolding digits
a_mul = refl

pub a_scale : line_text (said (LetScale (codes "x") (codes "a") 3)) ≡ codes "let x scale a 3"
unfolding digits
a_scale = refl

pub a_shift : line_text (said (LetShift (codes "x") (codes "a") 63)) ≡ codes "let x shift a 63"
unfolding digits
a_shift = refl

pub a_cut : line_text (said (LetCut (codes "x") (codes "a") 2 9)) ≡ codes "let x cut a 2 9"
unfolding digits
a_cut = refl

pub a_join : line_text (said (LetJoin (codes "x") (codes "b" ∷ codes "a" ∷ codes "c" ∷ []))) ≡ codes "let x join b a c"
unfolding digits
a_join = refl

pub a_sum : line_text (said (LetSum (codes "x") (codes "a"))) ≡ codes "let x sum a"
unfolding digits
a_sum = refl

pub a_count : line_text (said (LetCount (codes "x") (codes "a"))) ≡ codes "let x count a"
unfolding digits
a_count = refl

pub a_stencil1 : line_text (said (LetStencil1 (codes "x") (codes "l") (codes "m") (codes "r") 1 2)) ≡ codes "let x stencil1 l m r 1 2"
unfolding digits
a_stencil1 = refl

pub a_stencil2 : line_text (said (LetStencil2 (codes "x") (codes "n") (codes "s") (codes "w") (codes "e") (codes "m") 4 1 2)) ≡ codes "let x stencil2 n s w e m 4 1 2"
unfolding digits
a_stencil2 = refl

pub a_product : line_text (said (LetProduct (codes "y") (codes "m") (codes "x"))) ≡ codes "let y product m x"
unfolding digits
a_product = refl

pub a_put : line_text (said (Put (codes "p") (codes "x") None)) ≡ codes "put p x"
unfolding digits
a_put = refl

pub a_put_on_a_condition : line_text (said (Put (codes "p") (codes "x") (Some (codes "c")))) ≡ codes "put p x when c"
unfolding digits
a_put_on_a_condition = refl

pub a_drop : line_text (said (DropAwait (codes "p"))) ≡ codes "drop p"
unfolding digits
a_drop = refl

pub a_check_of_a_range : line_text (said (CheckRange (codes "p") 2 9)) ≡ codes "check range p 2 9"
unfolding digits
a_check_of_a_range = refl

pub a_check_of_a_total : line_text (said (CheckTotal (codes "p") 100)) ≡ codes "check total p 100"
unfolding digits
a_check_of_a_total = refl

pub a_linear_check : line_text (said (CheckLinear (codes "p") 7 (codes "q" ∷ codes "r" ∷ []) (2 ∷ 3 ∷ []))) ≡ codes "check linear p 7 q 2 r 3"
unfolding digits
a_linear_check = refl

pub a_check_of_conservation : line_text (said (CheckConserve (codes "p") (codes "l") (codes "m") (codes "r") 1 2)) ≡ codes "check conserve p l m r 1 2"
unfolding digits
a_check_of_conservation = refl

pub a_check_of_conservation_over_a_grid : line_text (said (CheckConserve2 (codes "p") (codes "n") (codes "s") (codes "w") (codes "e") (codes "m") 4 1 2)) ≡ codes "check conserve2 p n s w e m 4 1 2"
unfolding digits
a_check_of_conservation_over_a_grid = refl

pub a_check_of_a_product : line_text (said (CheckProduct (codes "p") (codes "m") (codes "q"))) ≡ codes "check product p m q"
unfolding digits
a_check_of_a_product = refl

pub a_check_of_the_callers_own : line_text (said (CheckUser (codes "p") (codes "byte"))) ≡ codes "check user p byte"
unfolding digits
a_check_of_the_callers_own = refl

-- lines of one reason

pub a_header_of_another_version : header_reason (codes "rhc 2" ∷ []) ≡ Header
a_header_of_another_version = refl

pub a_byte_out_of_range : is_printable (102 ∷ 9 ∷ 102 ∷ []) ≡ false
a_byte_out_of_range = refl

pub an_unknown_word : words_reason [] (words_of (codes "bogus")) ≡ Some BadStatement
unfolding kind_chosen pair_of
an_unknown_word = refl

pub a_let_outside_of_tasks : words_reason [] (words_of (codes "let x sum a")) ≡ Some BadStatement
unfolding kind_chosen pair_of
a_let_outside_of_tasks = refl

pub a_promise_in_a_task : words_reason (Task (codes "t") Plain [] ∷ []) (words_of (codes "promise p 1")) ≡ Some BadStatement
unfolding kind_chosen pair_of
a_promise_in_a_task = refl

pub a_bad_name : words_reason [] (words_of (codes "finish 9")) ≡ Some BadName
unfolding kind_chosen pair_of
a_bad_name = refl

pub a_bad_number : words_reason [] (words_of (codes "promise p x")) ≡ Some BadNumber
unfolding kind_chosen pair_of
a_bad_number = refl

pub a_word_too_many : words_reason [] (words_of (codes "end x")) ≡ Some Count
unfolding kind_chosen pair_of
a_word_too_many = refl

pub an_await_without_names : words_reason [] (words_of (codes "task t plain await")) ≡ Some Count
unfolding kind_chosen pair_of
an_await_without_names = refl

pub a_factor_too_few : words_reason (Task (codes "t") Plain [] ∷ []) (words_of (codes "check linear p 0 q")) ≡ Some Count
unfolding kind_chosen pair_of
a_factor_too_few = refl

pub a_row_too_many : words_reason (Row (0 ∷ []) (1 ∷ []) ∷ Matrix (codes "m") 1 3 ∷ []) (words_of (codes "row 0:1")) ≡ Some Count
unfolding kind_chosen pair_of
a_row_too_many = refl

pub an_end_before_the_last_row : words_reason (Matrix (codes "m") 1 3 ∷ []) (words_of (codes "end")) ≡ Some Count
unfolding kind_chosen pair_of
an_end_before_the_last_row = refl

pub an_end_of_nothing : statement_reason [] End ≡ Some EndExtra
an_end_of_nothing = refl

pub a_promise_of_no_words : statement_reason [] (Promise (codes "p") 0 false) ≡ Some Limit
a_promise_of_no_words = refl

pub a_shift_by_64 : statement_reason (Task (codes "t") Plain [] ∷ []) (LetShift (codes "x") (codes "a") 64) ≡ Some Limit
a_shift_by_64 = refl

pub an_empty_cut : statement_reason (Task (codes "t") Plain [] ∷ []) (LetCut (codes "x") (codes "a") 0 0) ≡ Some Limit
an_empty_cut = refl

pub columns_that_do_not_ascend : statement_reason (Matrix (codes "m") 1 3 ∷ []) (Row (2 ∷ 1 ∷ []) (1 ∷ 1 ∷ [])) ≡ Some Limit
columns_that_do_not_ascend = refl

pub a_block_without_an_end : open_blocks (Task (codes "t") Plain [] ∷ []) ≡ TaskBlock ∷ []
a_block_without_an_end = refl

-- lines of two reasons, of which the first is told

pub an_unknown_kernel_before_a_bad_name : words_reason (Task (codes "t") Plain [] ∷ []) (words_of (codes "let 9 sums a")) ≡ Some BadStatement
unfolding kind_chosen pair_of
an_unknown_kernel_before_a_bad_name = refl

pub an_unknown_scheme_before_a_bad_name : words_reason [] (words_of (codes "task 9 foo")) ≡ Some BadStatement
unfolding kind_chosen pair_of
an_unknown_scheme_before_a_bad_name = refl

pub a_wrong_place_before_a_bad_number : words_reason (Task (codes "t") Plain [] ∷ []) (words_of (codes "promise p x")) ≡ Some BadStatement
unfolding kind_chosen pair_of
a_wrong_place_before_a_bad_number = refl

pub a_bad_name_before_a_bad_number : words_reason [] (words_of (codes "promise 9 x")) ≡ Some BadName
unfolding kind_chosen pair_of
a_bad_name_before_a_bad_number = refl

pub a_bad_name_before_a_limit : words_reason (Task (codes "t") Plain [] ∷ []) (words_of (codes "let 9 shift a 64")) ≡ Some BadName
unfolding kind_chosen pair_of
a_bad_name_before_a_limit = refl

pub a_bad_number_before_a_wrong_count : words_reason [] (words_of (codes "promise p 0x 9 9")) ≡ Some BadNumber
unfolding kind_chosen pair_of
a_bad_number_before_a_wrong_count = refl

pub a_wrong_count_before_a_limit : words_reason (Task (codes "t") Plain [] ∷ []) (words_of (codes "let x shift a 64 9")) ≡ Some Count
unfolding kind_chosen pair_of
a_wrong_count_before_a_limit = refl

pub a_wrong_count_before_an_end_of_nothing : words_reason [] (words_of (codes "end x")) ≡ Some Count
unfolding kind_chosen pair_of
a_wrong_count_before_an_end_of_nothing = refl
