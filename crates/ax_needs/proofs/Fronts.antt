-- The text of a path begins with those of its fronts alone. `PathTexts` of ax_policy has these lemmas as well, but shows
-- them to no other crate.
use Rattle.std.proofs.Common.{◌≡◌, ℕ, ◌==◌, ◌||◌, Bool, true, false, cond, List, [], ◌∷◌, ◌++◌, drop, get_or, Option, Some, None}
use Rattle.std.proofs.Common.{refl, sym, ap, ◌∙◌, arith, append_assoc}
use Rattle.std.proofs.lemmas.Grind.{flat_map-append}
use Rattle.ax_mean.specs.declared.query.Step.{Step}
use Rattle.ax_mean.specs.declared.query.Step.TheVariants.{Name, Item}
use Rattle.ax_policy.specs.Paths.{backslash, escaped, mark_text, name_text, put, quote, quoted, rule_text, step_text, steps_text}

-- ---- names

abbrev found : List ℕ → List ℕ → Option (List ℕ × List ℕ)
found name rest = Some (name, rest)

quoted_step : (byte : ℕ) (name rest : List ℕ) → quoted false (escaped name ++ quote ∷ rest) ≡ found name rest
    → (a b : Bool) → (byte == quote) ≡ a → (byte == backslash) ≡ b
    → quoted false ((cond (a || b) (backslash ∷ byte ∷ []) (byte ∷ []) ++ escaped name) ++ quote ∷ rest)
    ≡ found (byte ∷ name) rest
quoted_step byte name rest later true b i j = rw i (ap (put byte) later)
quoted_step byte name rest later false true i j = rw (i, j) (ap (put byte) later)
quoted_step byte name rest later false false i j = rw (i, j) (ap (put byte) later)

quoted_again : (name rest : List ℕ) → quoted false (escaped name ++ quote ∷ rest) ≡ found name rest
quoted_again [] rest = refl
quoted_again (byte ∷ name) rest =
    quoted_step byte name rest (quoted_again name rest) (byte == quote) (byte == backslash) refl refl

name_apart : (a b x y : List ℕ) → name_text a ++ x ≡ name_text b ++ y → found a x ≡ found b y
name_apart a b x y e =
    sym (quoted_again a x)
    ∙ ap (quoted false) (sym (append_assoc (escaped a) (quote ∷ []) x))
    ∙ ap (λ l. quoted false (drop 2 l)) e
    ∙ ap (quoted false) (append_assoc (escaped b) (quote ∷ []) y)
    ∙ quoted_again b y

abbrev name_in : Option (List ℕ × List ℕ) → List ℕ
name_in None = []
name_in (Some f) = f.0

abbrev rest_in : Option (List ℕ × List ℕ) → List ℕ
rest_in None = []
rest_in (Some f) = f.1

same_name : (a b x y : List ℕ) → found a x ≡ found b y → a ≡ b
same_name a b x y e = ap name_in e

same_rest : (a b x y : List ℕ) → found a x ≡ found b y → x ≡ y
same_rest a b x y e = ap rest_in e

-- ---- fronts

pub record IsFront (front steps : List Step) : Type 0 where
  pub more : List Step
  pub whole : steps ≡ front ++ more

longer : (step : Step) (front steps : List Step) → IsFront front steps → IsFront (step ∷ front) (step ∷ steps)
longer step front steps f = record { more = f.more; whole = ap (λ l. step ∷ l) f.whole }

no_mark : (step : Step) (x : List ℕ) (all : Bool) → mark_text all ≡ step_text step ++ x → ⊥
no_mark (Name name) x true e = absurd (let h : 42 ≡ 34 = ap (λ l. get_or l 1 0) e in omega arith)
no_mark (Name name) x false e = absurd (let h : 63 ≡ 34 = ap (λ l. get_or l 1 0) e in omega arith)
no_mark Item x true e = absurd (let h : 42 ≡ 91 = ap (λ l. get_or l 1 0) e in omega arith)
no_mark Item x false e = absurd (let h : 63 ≡ 91 = ap (λ l. get_or l 1 0) e in omega arith)

pub front_of_text : (front steps : List Step) (all : Bool) (x : List ℕ)
    → steps_text steps ++ mark_text all ≡ steps_text front ++ x → IsFront front steps
front_of_text [] steps all x e = record { more = steps; whole = refl }
front_of_text (step ∷ front) [] all x e =
    absurd (no_mark step (steps_text front ++ x) all (e ∙ append_assoc (step_text step) (steps_text front) x))
front_of_text (Name a ∷ front) (Name b ∷ steps) all x e =
    let same : found b (steps_text steps ++ mark_text all) ≡ found a (steps_text front ++ x) =
    name_apart b a (steps_text steps ++ mark_text all) (steps_text front ++ x)
    (sym (append_assoc (name_text b) (steps_text steps) (mark_text all)) ∙ e
    ∙ append_assoc (name_text a) (steps_text front) x) in
    let f : IsFront front steps = front_of_text front steps all x (same_rest b a _ _ same) in
    record {
      more = f.more;
      whole = ap (λ n. Name n ∷ steps) (same_name b a _ _ same) ∙ ap (λ l. Name a ∷ l) f.whole;
    }
front_of_text (Item ∷ front) (Item ∷ steps) all x e =
    longer Item front steps (front_of_text front steps all x (ap (λ l. drop 3 l) e))
front_of_text (Name a ∷ front) (Item ∷ steps) all x e =
    absurd (let h : 91 ≡ 34 = ap (λ l. get_or l 1 0) e in omega arith)
front_of_text (Item ∷ front) (Name b ∷ steps) all x e =
    absurd (let h : 34 ≡ 91 = ap (λ l. get_or l 1 0) e in omega arith)

pub front_in_text : (front more : List Step) (all : Bool)
    → rule_text (front ++ more) all ≡ steps_text front ++ rule_text more all
front_in_text front more all =
    ap (λ l. l ++ mark_text all) (flat_map-append step_text front more)
    ∙ append_assoc (steps_text front) (steps_text more) (mark_text all)
