-- The words of a line that names a fault.
use Rattle.std.proofs.Common.{◌≡◌, ℕ, List, [], ◌∷◌, Some, None, Bool, true, false, cond, refl, ap, sym, subst, ◌∙◌}
use Rattle.std.specs.Prelude.{codes, nat_le}
use Rattle.std.proofs.lemmas.Bool.{false≢true}
use Rattle.rh_words.specs.Text.{words_of, SaysNothing}
use Rattle.rh_words.specs.Places.{agrees, places_reason, FitPlaces}
use Rattle.rh_words.specs.Values.{SayWords}
use Rattle.rh_words.specs.declared.reason.Reason.TheVariants.{Statement}
use Rattle.rh_words.specs.declared.value.Value.{Value}
use Rattle.rh_words.proofs.WordsInPlaces.{fitted, unreasoned, said_once}
use Rattle.rh_injector.specs.declared.fault_text.FaultLine.{FaultLine}
use Rattle.rh_injector.specs.FaultTexts.{first_place, fault_places, said, SaysFault, words_reason}

-- the fault of these parts
abbrev made : ℕ → List ℕ → ℕ → List ℕ → ℕ → ℕ → FaultLine
made line task attempt local word mask = record { line = line; task = task; attempt = attempt; local = local; word = word; mask = mask }

same_parts : (l k : ℕ) (t u : List ℕ) (a b : ℕ) (o p : List ℕ) (w x m n : ℕ) → l ≡ k → t ≡ u → a ≡ b → o ≡ p → w ≡ x → m ≡ n → made l t a o w m ≡ made k u b p x n
same_parts l k t u a b o p w x m n line task attempt local word mask =
    ap (λ (v : ℕ). made v t a o w m) line ∙ ap (λ (v : List ℕ). made k v a o w m) task ∙ ap (λ (v : ℕ). made k u v o w m) attempt
    ∙ ap (λ (v : List ℕ). made k u b v w m) local ∙ ap (λ (v : ℕ). made k u b p v m) word ∙ ap (λ (v : ℕ). made k u b p x v) mask

-- faults that say the same in one line are the same
same_said : (a b : FaultLine) → a.line ≡ b.line → said a ≡ said b → a ≡ b
same_said a b line e = same_parts a.line b.line a.task b.task a.attempt b.attempt a.local b.local a.word b.word a.mask b.mask line (cc) (cc) (cc) (cc) (cc)

-- what a fault says fits the places
pub said_fits : (fault : FaultLine) → FitPlaces fault_places [] [] (said fault)
said_fits fault = (refl, ((fault.task, refl), ((fault.attempt, refl), ((fault.local, refl), ((fault.word, refl), ((fault.mask, refl), tt))))))

-- a line says one fault
pub SaysFault-same : (n : ℕ) (line : List ℕ) (a b : FaultLine) → SaysFault n line a → SaysFault n line b → a ≡ b
SaysFault-same n line a b ha hb =
    same_said a b (ha.numbered ∙ sym hb.numbered) (said_once fault_places [] [] (words_of line) (said a) (said b) ha.spelled hb.spelled (said_fits a) (said_fits b))

-- the first word is `fault`
first_said : (ws : List (List ℕ)) (fault : FaultLine) → SayWords ws (said fault) → (more : List (List ℕ)) × (ws ≡ codes "fault" ∷ more)
first_said ws fault spelled = (spelled.1, spelled.2 ∙ ap (λ (w : List ℕ). w ∷ spelled.1) spelled.3)

no_comment : (more : List (List ℕ)) → SaysNothing (codes "fault" ∷ more) → ⊥
no_comment more comment = false≢true (ap (λ (c : ℕ). nat_le 100 c) (sym comment))

-- words that say a fault do not say nothing
pub nothing_said : (ws : List (List ℕ)) (fault : FaultLine) → SaysNothing ws → SayWords ws (said fault) → ⊥
nothing_said ws fault nothing spelled =
    let first = first_said ws fault spelled in
    no_comment first.0 (subst (λ (l : List (List ℕ)). SaysNothing l) first.1 nothing)

-- words that say a fault have no reason
pub said_unreasoned : (ws : List (List ℕ)) (fault : FaultLine) → SayWords ws (said fault) → words_reason ws ≡ None
said_unreasoned ws fault spelled =
    let first = first_said ws fault spelled in
    let agreed : agrees first_place ws ≡ true = ap (λ (l : List (List ℕ)). agrees first_place l) first.1 in
    ap (λ (b : Bool). cond b (places_reason fault_places [] [] ws) (Some Statement)) agreed ∙ fitted fault_places [] [] ws (said fault) spelled (said_fits fault)

-- values that fit the places are those of a fault
pub fit_said : (n : ℕ) (vs : List Value) → FitPlaces fault_places [] [] vs → (fault : FaultLine) × (fault.line ≡ n) × (said fault ≡ vs)
fit_said n [] fits = absurd fits
fit_said n (a ∷ []) fits = absurd fits.1
fit_said n (a ∷ b ∷ []) fits = absurd fits.1.1
fit_said n (a ∷ b ∷ c ∷ []) fits = absurd fits.1.1.1
fit_said n (a ∷ b ∷ c ∷ d ∷ []) fits = absurd fits.1.1.1.1
fit_said n (a ∷ b ∷ c ∷ d ∷ e ∷ []) fits = absurd fits.1.1.1.1.1
fit_said n (a ∷ b ∷ c ∷ d ∷ e ∷ f ∷ []) fits =
    let fault : FaultLine = made n fits.1.0.0 fits.1.1.0.0 fits.1.1.1.0.0 fits.1.1.1.1.0.0 fits.1.1.1.1.1.0.0 in
    let first = fits.0 in
    let second = fits.1.0.1 in
    let third = fits.1.1.0.1 in
    let fourth = fits.1.1.1.0.1 in
    let fifth = fits.1.1.1.1.0.1 in
    let sixth = fits.1.1.1.1.1.0.1 in
    (fault, refl, cc)
fit_said n (a ∷ b ∷ c ∷ d ∷ e ∷ f ∷ g ∷ vs) fits = absurd fits.1.1.1.1.1.1

-- words without a reason say a fault
pub unreasoned_said : (n : ℕ) (ws : List (List ℕ)) → words_reason ws ≡ None → (fault : FaultLine) × (fault.line ≡ n) × SayWords ws (said fault)
unreasoned_said n ws e = by_first (agrees first_place ws) e where
  by_first : (b : Bool) → cond b (places_reason fault_places [] [] ws) (Some Statement) ≡ None → (fault : FaultLine) × (fault.line ≡ n) × SayWords ws (said fault)
  by_first false e = absurd (let f = e in cc)
  by_first true e =
      let valued = unreasoned fault_places [] [] ws e in
      let fault = fit_said n valued.0 valued.2 in
      (fault.0, fault.1, subst (λ (vs : List Value). SayWords ws vs) (sym fault.2) valued.1)
