-- The table of the forms of statements.
use Rattle.std.specs.Prelude.{List, [], ◌∷◌}
use Rattle.rh_words.specs.declared.keyword.Keyword.{Keyword}
use Rattle.rh_words.specs.declared.keyword.Keyword.TheVariants.{PromiseWord, TempWord, MatrixWord, RowWord, TaskWord, PlainWord, ReplicateWord, AbftWord, ReplayWord, AwaitWord, FinishWord, GroupWord, EndWord, LetWord, LitWord, GenWord, AddWord, SubWord, MulWord, ScaleWord, ShiftWord, CutWord, JoinWord, SumWord, CountWord, Stencil1Word, Stencil2Word, ProductWord, PutWord, WhenWord, DropWord, CheckWord, RangeWord, TotalWord, LinearWord, ConserveWord, Conserve2Word, UserWord}
use Rattle.rh_words.specs.declared.value.Place.{Place}
use Rattle.rh_words.specs.declared.value.Place.TheVariants.{WordPlace, NamePlace, NumberPlace, PairPlace}
use Rattle.rh_task_text.specs.declared.form.Standing.{Standing}
use Rattle.rh_task_text.specs.declared.form.Standing.TheVariants.{Outside, InMatrix, InTask, Anywhere}
use Rattle.rh_task_text.specs.declared.form.FormKind.{FormKind}
use Rattle.rh_task_text.specs.declared.form.FormKind.TheVariants.{PromiseForm, MatrixForm, RowForm, PlainForm, ReplicateForm, ReplayForm, AbftForm, FinishForm, GroupForm, EndForm, LitForm, GenForm, AddForm, SubForm, MulForm, ScaleForm, ShiftForm, CutForm, JoinForm, SumForm, CountForm, Stencil1Form, Stencil2Form, ProductForm, PutForm, DropForm, RangeForm, TotalForm, LinearForm, ConserveForm, Conserve2Form, ProductCheckForm, UserForm}

-- Such a line begins with the word `first`, and words that are as `choice` says choose the form. Then it has what `places` says. Then it ends, or what `more` says follows, and after that what `again` says, any number of times.
pub record Form : Type 0 where
  pub standing : Standing
  pub first : Keyword
  pub choice : List Place
  pub places : List Place
  pub more : List Place
  pub again : List Place

-- a form whose line ends after its places
abbrev pub a_form : Standing → Keyword → List Place → Form
a_form standing first places = record { standing = standing; first = first; choice = []; places = places; more = []; again = [] }

-- what follows a task or a group that awaits promises
abbrev pub awaiting : List Place
awaiting = WordPlace AwaitWord ∷ NamePlace ∷ []

-- a task of this scheme, with the promises that it awaits
abbrev pub a_task : Keyword → List Place → Form
a_task scheme operands = record { standing = Outside; first = TaskWord; choice = NamePlace ∷ WordPlace scheme ∷ []; places = NamePlace ∷ WordPlace scheme ∷ operands; more = awaiting; again = NamePlace ∷ [] }

-- a `let` of a kernel with these operands
abbrev pub a_let : Keyword → List Place → List Place → Form
a_let kernel operands again = record { standing = InTask; first = LetWord; choice = NamePlace ∷ WordPlace kernel ∷ []; places = NamePlace ∷ WordPlace kernel ∷ operands; more = again; again = again }

-- a check of a promise with these operands
abbrev pub a_check : Keyword → List Place → List Place → Form
a_check name operands again = record { standing = InTask; first = CheckWord; choice = WordPlace name ∷ []; places = WordPlace name ∷ NamePlace ∷ operands; more = again; again = again }

-- the table
abbrev pub form : FormKind → Form
form PromiseForm = record { standing = Outside; first = PromiseWord; choice = []; places = NamePlace ∷ NumberPlace ∷ []; more = WordPlace TempWord ∷ []; again = [] }
form MatrixForm = a_form Outside MatrixWord (NamePlace ∷ NumberPlace ∷ NumberPlace ∷ [])
form RowForm = record { standing = InMatrix; first = RowWord; choice = []; places = []; more = PairPlace ∷ []; again = PairPlace ∷ [] }
form PlainForm = a_task PlainWord []
form ReplicateForm = a_task ReplicateWord []
form ReplayForm = a_task ReplayWord (NumberPlace ∷ [])
form AbftForm = a_task AbftWord []
form FinishForm = a_form Outside FinishWord (NamePlace ∷ [])
form GroupForm = record { standing = Outside; first = GroupWord; choice = []; places = NamePlace ∷ []; more = awaiting; again = NamePlace ∷ [] }
form EndForm = a_form Anywhere EndWord []
form LitForm = a_let LitWord (NumberPlace ∷ []) (NumberPlace ∷ [])
form GenForm = a_let GenWord (NumberPlace ∷ NumberPlace ∷ NumberPlace ∷ []) []
form AddForm = a_let AddWord (NamePlace ∷ NamePlace ∷ []) []
form SubForm = a_let SubWord (NamePlace ∷ NamePlace ∷ []) []
form MulForm = a_let MulWord (NamePlace ∷ NamePlace ∷ []) []
form ScaleForm = a_let ScaleWord (NamePlace ∷ NumberPlace ∷ []) []
form ShiftForm = a_let ShiftWord (NamePlace ∷ NumberPlace ∷ []) []
form CutForm = a_let CutWord (NamePlace ∷ NumberPlace ∷ NumberPlace ∷ []) []
form JoinForm = a_let JoinWord (NamePlace ∷ []) (NamePlace ∷ [])
form SumForm = a_let SumWord (NamePlace ∷ []) []
form CountForm = a_let CountWord (NamePlace ∷ []) []
form Stencil1Form = a_let Stencil1Word (NamePlace ∷ NamePlace ∷ NamePlace ∷ NumberPlace ∷ NumberPlace ∷ []) []
form Stencil2Form = a_let Stencil2Word (NamePlace ∷ NamePlace ∷ NamePlace ∷ NamePlace ∷ NamePlace ∷ NumberPlace ∷ NumberPlace ∷ NumberPlace ∷ []) []
form ProductForm = a_let ProductWord (NamePlace ∷ NamePlace ∷ []) []
form PutForm = record { standing = InTask; first = PutWord; choice = []; places = NamePlace ∷ NamePlace ∷ []; more = WordPlace WhenWord ∷ NamePlace ∷ []; again = [] }
form DropForm = a_form InTask DropWord (NamePlace ∷ [])
form RangeForm = a_check RangeWord (NumberPlace ∷ NumberPlace ∷ []) []
form TotalForm = a_check TotalWord (NumberPlace ∷ []) []
form LinearForm = a_check LinearWord (NumberPlace ∷ NamePlace ∷ NumberPlace ∷ []) (NamePlace ∷ NumberPlace ∷ [])
form ConserveForm = a_check ConserveWord (NamePlace ∷ NamePlace ∷ NamePlace ∷ NumberPlace ∷ NumberPlace ∷ []) []
form Conserve2Form = a_check Conserve2Word (NamePlace ∷ NamePlace ∷ NamePlace ∷ NamePlace ∷ NamePlace ∷ NumberPlace ∷ NumberPlace ∷ NumberPlace ∷ []) []
form ProductCheckForm = a_check ProductWord (NamePlace ∷ NamePlace ∷ []) []
form UserForm = a_check UserWord (NamePlace ∷ []) []

-- the rows in their order
abbrev pub kinds : List FormKind
kinds = PromiseForm ∷ MatrixForm ∷ RowForm ∷ PlainForm ∷ ReplicateForm ∷ ReplayForm ∷ AbftForm ∷ FinishForm ∷ GroupForm ∷ EndForm ∷ LitForm ∷ GenForm ∷ AddForm ∷ SubForm ∷ MulForm ∷ ScaleForm ∷ ShiftForm ∷ CutForm ∷ JoinForm ∷ SumForm ∷ CountForm ∷ Stencil1Form ∷ Stencil2Form ∷ ProductForm ∷ PutForm ∷ DropForm ∷ RangeForm ∷ TotalForm ∷ LinearForm ∷ ConserveForm ∷ Conserve2Form ∷ ProductCheckForm ∷ UserForm ∷ []
