-- What a statement says in words, and how a line's words spell it.
use Rattle.std.specs.Prelude.{ℕ, ◌≡◌, ◌<◌, List, [], ◌∷◌, Bool, true, false, Option, Some, None, length, ⊤, map}
use Rattle.rh_words.specs.declared.keyword.Keyword.TheVariants.{PromiseWord, TempWord, MatrixWord, RowWord, TaskWord, PlainWord, ReplicateWord, AbftWord, ReplayWord, AwaitWord, FinishWord, GroupWord, EndWord, LetWord, LitWord, GenWord, AddWord, SubWord, MulWord, ScaleWord, ShiftWord, CutWord, JoinWord, SumWord, CountWord, Stencil1Word, Stencil2Word, ProductWord, PutWord, WhenWord, DropWord, CheckWord, RangeWord, TotalWord, LinearWord, ConserveWord, Conserve2Word, UserWord}
use Rattle.rh_words.specs.declared.value.Place.TheVariants.{WordPlace}
use Rattle.rh_words.specs.declared.value.Value.{Value}
use Rattle.rh_words.specs.declared.value.Value.TheVariants.{AWord, AName, ANumber, APair}
use Rattle.rh_task_text.specs.declared.form.FormKind.{FormKind}
use Rattle.rh_task_text.specs.declared.form.FormKind.TheVariants.{PromiseForm, MatrixForm, RowForm, PlainForm, ReplicateForm, ReplayForm, AbftForm, FinishForm, GroupForm, EndForm, LitForm, GenForm, AddForm, SubForm, MulForm, ScaleForm, ShiftForm, CutForm, JoinForm, SumForm, CountForm, Stencil1Form, Stencil2Form, ProductForm, PutForm, DropForm, RangeForm, TotalForm, LinearForm, ConserveForm, Conserve2Form, ProductCheckForm, UserForm}
use Rattle.rh_task_text.specs.declared.statement.SchemeText.{SchemeText}
use Rattle.rh_task_text.specs.declared.statement.SchemeText.TheVariants.{Plain, Replicate, Replay, Abft}
use Rattle.rh_task_text.specs.declared.statement.Statement.{Statement}
use Rattle.rh_task_text.specs.declared.statement.Statement.TheVariants.{Promise, Matrix, Row, Task, Finish, Group, End, LetLit, LetGen, LetAdd, LetSub, LetMul, LetScale, LetShift, LetCut, LetJoin, LetSum, LetCount, LetStencil1, LetStencil2, LetProduct, Put, DropAwait, CheckRange, CheckTotal, CheckLinear, CheckConserve, CheckConserve2, CheckProduct, CheckUser}
use Rattle.rh_task_text.specs.Forms.{Form}
use Rattle.rh_words.specs.Values.{SayWords}
use Rattle.rh_words.specs.Places.{FitPlaces}

-- what `temp` says, where it is there
abbrev pub temp_said : Bool → List Value
temp_said true = AWord TempWord ∷ []
temp_said false = []

-- what a row says, an item for each column and its value
abbrev pub pairs_said : List ℕ → List ℕ → List Value
pairs_said [] values = []
pairs_said (j ∷ columns) [] = []
pairs_said (j ∷ columns) (v ∷ values) = APair j v ∷ pairs_said columns values

-- what inputs and their factors say
abbrev pub terms_said : List (List ℕ) → List ℕ → List Value
terms_said [] factors = []
terms_said (q ∷ inputs) [] = []
terms_said (q ∷ inputs) (c ∷ factors) = AName q ∷ ANumber c ∷ terms_said inputs factors

-- what a block says of the promises that it awaits: nothing where there are none
abbrev pub awaits_said : List (List ℕ) → List Value
awaits_said [] = []
awaits_said (q ∷ qs) = AWord AwaitWord ∷ AName q ∷ map AName qs

-- what a put says of its condition
abbrev pub when_said : Option (List ℕ) → List Value
when_said None = []
when_said (Some y) = AWord WhenWord ∷ AName y ∷ []

-- what a scheme says, and what follows it
abbrev pub scheme_said : SchemeText → List Value → List Value
scheme_said Plain rest = AWord PlainWord ∷ rest
scheme_said Replicate rest = AWord ReplicateWord ∷ rest
scheme_said (Replay limit) rest = AWord ReplayWord ∷ ANumber limit ∷ rest
scheme_said Abft rest = AWord AbftWord ∷ rest

-- what a statement says, word by word
abbrev pub said : Statement → List Value
said (Promise name len temp) = AWord PromiseWord ∷ AName name ∷ ANumber len ∷ temp_said temp
said (Matrix name rows cols) = AWord MatrixWord ∷ AName name ∷ ANumber rows ∷ ANumber cols ∷ []
said (Row columns values) = AWord RowWord ∷ pairs_said columns values
said (Task name scheme awaits) = AWord TaskWord ∷ AName name ∷ scheme_said scheme (awaits_said awaits)
said (Finish name) = AWord FinishWord ∷ AName name ∷ []
said (Group name awaits) = AWord GroupWord ∷ AName name ∷ awaits_said awaits
said End = AWord EndWord ∷ []
said (LetLit x words) = AWord LetWord ∷ AName x ∷ AWord LitWord ∷ map ANumber words
said (LetGen x n start limit) = AWord LetWord ∷ AName x ∷ AWord GenWord ∷ ANumber n ∷ ANumber start ∷ ANumber limit ∷ []
said (LetAdd x a b) = AWord LetWord ∷ AName x ∷ AWord AddWord ∷ AName a ∷ AName b ∷ []
said (LetSub x a b) = AWord LetWord ∷ AName x ∷ AWord SubWord ∷ AName a ∷ AName b ∷ []
said (LetMul x a b) = AWord LetWord ∷ AName x ∷ AWord MulWord ∷ AName a ∷ AName b ∷ []
said (LetScale x a k) = AWord LetWord ∷ AName x ∷ AWord ScaleWord ∷ AName a ∷ ANumber k ∷ []
said (LetShift x a s) = AWord LetWord ∷ AName x ∷ AWord ShiftWord ∷ AName a ∷ ANumber s ∷ []
said (LetCut x a from len) = AWord LetWord ∷ AName x ∷ AWord CutWord ∷ AName a ∷ ANumber from ∷ ANumber len ∷ []
said (LetJoin x parts) = AWord LetWord ∷ AName x ∷ AWord JoinWord ∷ map AName parts
said (LetSum x a) = AWord LetWord ∷ AName x ∷ AWord SumWord ∷ AName a ∷ []
said (LetCount x a) = AWord LetWord ∷ AName x ∷ AWord CountWord ∷ AName a ∷ []
said (LetStencil1 x l m r k s) = AWord LetWord ∷ AName x ∷ AWord Stencil1Word ∷ AName l ∷ AName m ∷ AName r ∷ ANumber k ∷ ANumber s ∷ []
said (LetStencil2 x north south west east m cols k s) = AWord LetWord ∷ AName x ∷ AWord Stencil2Word ∷ AName north ∷ AName south ∷ AName west ∷ AName east ∷ AName m ∷ ANumber cols ∷ ANumber k ∷ ANumber s ∷ []
said (LetProduct x a v) = AWord LetWord ∷ AName x ∷ AWord ProductWord ∷ AName a ∷ AName v ∷ []
said (Put promise local when) = AWord PutWord ∷ AName promise ∷ AName local ∷ when_said when
said (DropAwait promise) = AWord DropWord ∷ AName promise ∷ []
said (CheckRange promise lo hi) = AWord CheckWord ∷ AWord RangeWord ∷ AName promise ∷ ANumber lo ∷ ANumber hi ∷ []
said (CheckTotal promise sum) = AWord CheckWord ∷ AWord TotalWord ∷ AName promise ∷ ANumber sum ∷ []
said (CheckLinear promise base inputs factors) = AWord CheckWord ∷ AWord LinearWord ∷ AName promise ∷ ANumber base ∷ terms_said inputs factors
said (CheckConserve promise l m r k s) = AWord CheckWord ∷ AWord ConserveWord ∷ AName promise ∷ AName l ∷ AName m ∷ AName r ∷ ANumber k ∷ ANumber s ∷ []
said (CheckConserve2 promise north south west east m cols k s) = AWord CheckWord ∷ AWord Conserve2Word ∷ AName promise ∷ AName north ∷ AName south ∷ AName west ∷ AName east ∷ AName m ∷ ANumber cols ∷ ANumber k ∷ ANumber s ∷ []
said (CheckProduct promise a q) = AWord CheckWord ∷ AWord ProductWord ∷ AName promise ∷ AName a ∷ AName q ∷ []
said (CheckUser promise check) = AWord CheckWord ∷ AWord UserWord ∷ AName promise ∷ AName check ∷ []

-- The words of the statement say all of it: a list that may not be empty is not, and lists of pairs are equally long.
abbrev pub IsSaidWhole : Statement → Type 0
IsSaidWhole (Row columns values) = length columns ≡ length values
IsSaidWhole (LetLit x words) = 0 < length words
IsSaidWhole (LetJoin x parts) = 0 < length parts
IsSaidWhole (CheckLinear promise base inputs factors) = (0 < length inputs) × (length inputs ≡ length factors)
IsSaidWhole s = ⊤

-- the words spell the statement
abbrev pub Spells : List (List ℕ) → Statement → Type 0
Spells words s = SayWords words (said s) × IsSaidWhole s

-- the values have the shape of the form
abbrev pub FitForm : Form → List Value → Type 0
FitForm f vs = FitPlaces (WordPlace f.first ∷ f.places) f.more f.again vs

-- the row of a task of this scheme
abbrev pub task_kind : SchemeText → FormKind
task_kind Plain = PlainForm
task_kind Replicate = ReplicateForm
task_kind (Replay limit) = ReplayForm
task_kind Abft = AbftForm

-- the statement's row of the table of forms
abbrev pub kind_of : Statement → FormKind
kind_of (Promise name len temp) = PromiseForm
kind_of (Matrix name rows cols) = MatrixForm
kind_of (Row columns values) = RowForm
kind_of (Task name scheme awaits) = task_kind scheme
kind_of (Finish name) = FinishForm
kind_of (Group name awaits) = GroupForm
kind_of End = EndForm
kind_of (LetLit x words) = LitForm
kind_of (LetGen x n start limit) = GenForm
kind_of (LetAdd x a b) = AddForm
kind_of (LetSub x a b) = SubForm
kind_of (LetMul x a b) = MulForm
kind_of (LetScale x a k) = ScaleForm
kind_of (LetShift x a s) = ShiftForm
kind_of (LetCut x a from len) = CutForm
kind_of (LetJoin x parts) = JoinForm
kind_of (LetSum x a) = SumForm
kind_of (LetCount x a) = CountForm
kind_of (LetStencil1 x l m r k s) = Stencil1Form
kind_of (LetStencil2 x north south west east m cols k s) = Stencil2Form
kind_of (LetProduct x a v) = ProductForm
kind_of (Put promise local when) = PutForm
kind_of (DropAwait promise) = DropForm
kind_of (CheckRange promise lo hi) = RangeForm
kind_of (CheckTotal promise sum) = TotalForm
kind_of (CheckLinear promise base inputs factors) = LinearForm
kind_of (CheckConserve promise l m r k s) = ConserveForm
kind_of (CheckConserve2 promise north south west east m cols k s) = Conserve2Form
kind_of (CheckProduct promise a q) = ProductCheckForm
kind_of (CheckUser promise check) = UserForm

-- the values are those of a statement of this row
abbrev pub States : FormKind → List Value → Statement → Type 0
States kind vs s = (said s ≡ vs) × IsSaidWhole s × (kind_of s ≡ kind)
