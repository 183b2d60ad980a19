-- What a check reads, by the numbers of the awaits.
use Rattle.std.proofs.Common.{◌≡◌, ℕ, List, [], ◌∷◌, Bool, true, false, ◌||◌, not, Option, Some, None, refl, ap, ◌∙◌}
use Rattle.std.specs.List.{list_any}
use Rattle.std.specs.Prelude.{is_some, nat_lt}
use Rattle.std.proofs.lemmas.Bool.{false≢true}
use Rattle.rh_task_text.specs.declared.statement.Statement.{Statement}
use Rattle.rh_rules.specs.Tables.{LocalName, if_any, is_in, place_of, is_local}
use Rattle.rh_rules.specs.declared.shape.NamedShape.{NamedShape}
use Rattle.rh_rules.specs.Facets.{facets}
use Rattle.rh_rules.specs.Rules.{is_among_first}
use Rattle.rh_rules.specs.Above.{lens_read}
use Rattle.rh_rules.specs.Bodies.{promises_put}
use Rattle.rh_rules.specs.Kept.{KeptCheck}
use Rattle.rh_rules.specs.declared.body.Step.{Step}
use Rattle.rh_rules.specs.declared.node.Scheme.{Scheme}
use Rattle.rh_tables.specs.declared.matrices.Named.{Named}
use Rattle.rh_tables.specs.Making.{IsNamed, check_reason, check_use_reason, reads_unknown, reads_dropped, numbers_read, names_no_matrix}
use Rattle.rh_tables.proofs.Using.{not_false, neither, dropped_all}

first_there : (o : Option ℕ) (n : ℕ) → if_any (λ i. nat_lt i n) o ≡ true → is_some o ≡ true
first_there None n e = absurd (false≢true e)
first_there (Some i) n e = refl

all_there : (n : ℕ) (ls : List LocalName) (xs : List (List ℕ)) → list_any (λ q. not (is_among_first n ls q)) xs ≡ false → list_any (λ x. not (is_local ls x)) xs ≡ false
all_there n ls [] e = refl
all_there n ls (x ∷ xs) e =
    let (first, rest) = neither (not (is_among_first n ls x)) (list_any (λ q. not (is_among_first n ls q)) xs) e in
    ap (λ (b : Bool). not b || list_any (λ x. not (is_local ls x)) xs) (first_there (place_of x ls) n (not_false (is_among_first n ls x) first)) ∙ all_there n ls xs rest

-- where all awaits are there, the dropped ones are those of dropped numbers
pub reads_dropped_numbers : (ms : List NamedShape) (n : ℕ) (ls : List LocalName) (drops : List ℕ) (s : Statement) → (reads_unknown n ls s || names_no_matrix ms s) ≡ false → reads_dropped ls drops s ≡ list_any (λ i. is_in i drops) (numbers_read ls s)
reads_dropped_numbers ms n ls drops s e = dropped_all ls drops (facets s).inputs (all_there n ls (facets s).inputs (neither (reads_unknown n ls s) (names_no_matrix ms s) e).0)

-- the reason of a check whose awaits are there, by what is looked up
pub check_by_use : (number len : ℕ) (body : List Step) (scheme : Scheme) (checks : List KeptCheck) (n : ℕ) (ms : List NamedShape) (ls : List LocalName) (drops : List ℕ) (s : Statement) (m : Named) (numbers lens : List ℕ) → is_in number (promises_put body) ≡ true
    → (reads_unknown n ls s || names_no_matrix ms s) ≡ false → IsNamed ms s m → numbers ≡ numbers_read ls s → lens ≡ lens_read ls s → check_use_reason len scheme checks m numbers lens drops s ≡ check_reason number len body scheme checks n ms ls drops s
check_by_use number len body scheme checks n ms ls drops s m numbers lens put known named numbers_is lens_is = rw (numbers_is, lens_is, named.shape, put, known, reads_dropped_numbers ms n ls drops s known) refl
