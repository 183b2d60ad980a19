use Rattle.std.proofs.Common.{subst, sym}
use Rattle.std.proofs.lemmas.Result.{IfOk-weaker}
use Rattle.rh_schemes.specs.Judges.{result_data}
use Rattle.rh_plain.specs.Listing.{HasLists}
use Rattle.rh_plain.specs.NodeLists.{NodeLists}
use Rattle.rh_plain.specs.Values.{has_words}
use Rattle.rh_plain.proofs.progress.ending_of.Goals as goal

pub returns : goal.returns
returns c =
    IfOk-weaker c.with_lists.result _ _
    (λ ending told. record {
      verdict = told.verdict;
      trials = told.trials;
      lists = λ node at. subst (λ (l : NodeLists). HasLists (has_words c.args.values.now) node (result_data c.args.ended) l) (sym told.lists) (c.in_ok-lists.ensures node at);
      puts = told.puts;
    })
    c.with_lists.ensures
