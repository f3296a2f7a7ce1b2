-- What is written of a path is read as this path, and the text of a path begins with those of its
-- fronts alone.
use Rattle.std.proofs.Common.{◌≡◌, ℕ, ◌-◌, ◌≤◌, ◌==◌, ◌||◌, ◌&&◌, Bool, true, false, cond, not, zero, suc, List, [], ◌∷◌, ◌++◌, length, take, drop, get_or, Option, Some, None, refl, sym, ap, ◌∙◌, arith, append_assoc}
use Rattle.std.specs.Prelude.{option_and_then}
use Rattle.std.specs.Option.{option_map}
use Rattle.std.specs.Str.{bytes_eq}
use Rattle.std.proofs.Math.Seq.{take-append_seam, drop-append_seam}
use Rattle.std.proofs.lemmas.Grind.{flat_map-append}
use Rattle.std.proofs.lemmas.List.{length-append}
use Rattle.ax_mean.specs.declared.query.Step.{Step}
use Rattle.ax_mean.specs.declared.query.Step.TheVariants.{Name, Item}
use Rattle.ax_policy.specs.declared.rule_path.RulePath.{RulePath}
use Rattle.ax_policy.specs.Paths.{slash, quote, backslash, escaped, name_text, step_text, steps_text, mark_text, rule_text, put, quoted, until_slash, from_slash, step_front, step_and, put_step, either, steps_in, steps_of, ending, beginning, before_mark, marked_path, rule_path, rule_path_of, is_empty}
use Rattle.ax_policy.specs.Written.{is_written, is_text_of, is_path}
use Rattle.ax_policy.proofs.PathReading.{found, stepped, in_more, all_of}
use Rattle.ax_policy.proofs.Searching.{bytes_eq_same}

-- ---- names

quoted_step : (byte : ℕ) (name rest : List ℕ) → quoted false (escaped name ++ quote ∷ rest) ≡ found name rest
    → (a b : Bool) → (byte == quote) ≡ a → (byte == backslash) ≡ b
    → quoted false ((cond (a || b) (backslash ∷ byte ∷ []) (byte ∷ []) ++ escaped name) ++ quote ∷ rest)
    ≡ found (byte ∷ name) rest
quoted_step byte name rest later true b i j = rw i (ap (put byte) later)
quoted_step byte name rest later false true i j = rw (i, j) (ap (put byte) later)
quoted_step byte name rest later false false i j = rw (i, j) (ap (put byte) later)

pub quoted_again : (name rest : List ℕ) → quoted false (escaped name ++ quote ∷ rest) ≡ found name rest
quoted_again [] rest = refl
quoted_again (byte ∷ name) rest =
    quoted_step byte name rest (quoted_again name rest) (byte == quote) (byte == backslash) refl refl

-- ---- steps

-- behind a step stands nothing or a slash
no_more : (steps : List Step) → until_slash (steps_text steps) ≡ []
no_more [] = refl
no_more (Name name ∷ steps) = refl
no_more (Item ∷ steps) = refl

all_more : (steps : List Step) → from_slash (steps_text steps) ≡ steps_text steps
all_more [] = refl
all_more (Name name ∷ steps) = refl
all_more (Item ∷ steps) = refl

-- a step's text without its slash
abbrev behind_slash : Step → List ℕ
behind_slash (Name name) = quote ∷ escaped name ++ quote ∷ []
behind_slash Item = 91 ∷ 93 ∷ []

slashed : (step : Step) → step_text step ≡ slash ∷ behind_slash step
slashed (Name name) = refl
slashed Item = refl

name_again : (name rest : List ℕ)
    → step_front ((quote ∷ escaped name ++ quote ∷ []) ++ rest) ≡ stepped (Name name) rest
name_again name rest =
    ap (λ l. step_front (quote ∷ l)) (append_assoc (escaped name) (quote ∷ []) rest)
    ∙ ap (option_map (λ (f : List ℕ × List ℕ). step_and f.1 (Name f.0))) (quoted_again name rest)

step_again : (step : Step) (steps : List Step)
    → step_front (behind_slash step ++ steps_text steps) ≡ stepped step (steps_text steps)
step_again (Name name) steps = name_again name (steps_text steps)
step_again Item steps = rw (no_more steps, all_more steps) refl

length_of : (step : Step) → 1 ≤ length (step_text step)
length_of (Name name) = omega arith
length_of Item = omega arith

in_again : (steps : List Step) (most : ℕ) → length (steps_text steps) ≤ most
    → steps_in most (steps_text steps) ≡ all_of steps
unfolding steps_in
in_again [] zero h = refl
in_again [] (suc most) h = refl
in_again (step ∷ steps) zero h = absurd (omega (arith, length_of step, length-append (step_text step) (steps_text steps)))
in_again (step ∷ steps) (suc most) h =
    ap (λ l. steps_in (suc most) (l ++ steps_text steps)) (slashed step)
    ∙ in_more most slash (behind_slash step ++ steps_text steps) refl
    ∙ ap (λ (o : Option (Step × List ℕ)). option_and_then (λ (f : Step × List ℕ). put_step f.0 (steps_in most f.1)) o) (step_again step steps)
    ∙ ap (put_step step) (in_again steps most (omega (arith, h, length_of step, length-append (step_text step) (steps_text steps))))

pub steps_again : (steps : List Step) → steps_of (steps_text steps) ≡ all_of steps
steps_again steps = in_again steps (length (steps_text steps)) (omega arith)

-- ---- paths of rules

two : (front : List ℕ) (all : Bool) → length (front ++ mark_text all) - 2 ≡ length front
two front true = omega (arith, length-append front (mark_text true))
two front false = omega (arith, length-append front (mark_text false))

at_end : (front : List ℕ) (all : Bool) → ending (front ++ mark_text all) ≡ mark_text all
at_end front all =
    ap (λ n. drop n (front ++ mark_text all)) (two front all) ∙ drop-append_seam front (mark_text all)

at_start : (front : List ℕ) (all : Bool) → beginning (front ++ mark_text all) ≡ front
at_start front all =
    ap (λ n. take n (front ++ mark_text all)) (two front all) ∙ take-append_seam front (mark_text all)

abbrev pub path_found : RulePath → Option RulePath
path_found path = Some path

abbrev front_found : List ℕ → Option (List ℕ)
front_found front = Some front

marked : (front : List ℕ) (all : Bool) → before_mark all (front ++ mark_text all) ≡ front_found front
marked front all =
    ap (λ l. cond (bytes_eq l (mark_text all)) (front_found (beginning (front ++ mark_text all))) None) (at_end front all)
    ∙ ap (λ b. cond b (front_found (beginning (front ++ mark_text all))) None) (bytes_eq_same (mark_text all))
    ∙ ap front_found (at_start front all)

unmarked : (front : List ℕ) → before_mark true (front ++ mark_text false) ≡ None
unmarked front =
    ap (λ l. cond (bytes_eq l (mark_text true)) (front_found (beginning (front ++ mark_text false))) None) (at_end front false)

made : (steps : List Step) (all : Bool) → is_path (record { steps = steps; all = all }) ≡ true
    → rule_path_of all steps ≡ path_found (record { steps = steps; all = all })
made steps all h = by_test (is_empty steps && not all) refl h
  where
    by_test : (b : Bool) → (is_empty steps && not all) ≡ b → not b ≡ true
        → cond b None (path_found (record { steps = steps; all = all }))
        ≡ path_found (record { steps = steps; all = all })
    by_test true e h = absurd (cc)
    by_test false e h = refl

marked_again : (steps : List Step) (all : Bool) → is_path (record { steps = steps; all = all }) ≡ true
    → marked_path all (rule_text steps all) ≡ path_found (record { steps = steps; all = all })
marked_again steps all h =
    ap (λ o. option_and_then (rule_path_of all) (option_and_then steps_of o)) (marked (steps_text steps) all)
    ∙ ap (λ o. option_and_then (rule_path_of all) o) (steps_again steps)
    ∙ made steps all h

pub path_again : (steps : List Step) (all : Bool) → is_path (record { steps = steps; all = all }) ≡ true
    → rule_path (rule_text steps all) ≡ path_found (record { steps = steps; all = all })
path_again steps true h =
    ap (λ o. either o (marked_path false (rule_text steps true))) (marked_again steps true h)
path_again steps false h =
    ap (λ o. either (option_and_then (rule_path_of true) (option_and_then steps_of o)) (marked_path false (rule_text steps false))) (unmarked (steps_text steps))
    ∙ marked_again steps false h

pub text_is_written : (path : RulePath) → is_path path ≡ true
    → is_written (rule_text path.steps path.all) ≡ true
unfolding is_written
text_is_written path h =
    ap (is_text_of (rule_text path.steps path.all)) (path_again path.steps path.all h)
    ∙ bytes_eq_same (rule_text path.steps path.all)

-- ---- fronts

pub name_apart : (a b x y : List ℕ) → name_text a ++ x ≡ name_text b ++ y → found a x ≡ found b y
name_apart a b x y e =
    sym (quoted_again a x)
    ∙ ap (quoted false) (sym (append_assoc (escaped a) (quote ∷ []) x))
    ∙ ap (λ l. quoted false (drop 2 l)) e
    ∙ ap (quoted false) (append_assoc (escaped b) (quote ∷ []) y)
    ∙ quoted_again b y

pub record Front (front steps : List Step) : Type 0 where
  pub more : List Step
  pub whole : steps ≡ front ++ more

abbrev name_in : Option (List ℕ × List ℕ) → List ℕ
name_in None = []
name_in (Some f) = f.0

abbrev rest_in : Option (List ℕ × List ℕ) → List ℕ
rest_in None = []
rest_in (Some f) = f.1

pub found_0 : (a b x y : List ℕ) → found a x ≡ found b y → a ≡ b
found_0 a b x y e = ap name_in e

pub found_1 : (a b x y : List ℕ) → found a x ≡ found b y → x ≡ y
found_1 a b x y e = ap rest_in e

longer : (step : Step) (front steps : List Step) → Front front steps → Front (step ∷ front) (step ∷ steps)
longer step front steps f = record { more = f.more; whole = ap (λ l. step ∷ l) f.whole }

pub no_mark : (step : Step) (x : List ℕ) (all : Bool) → mark_text all ≡ step_text step ++ x → ⊥
no_mark (Name name) x true e = absurd (let h : 42 ≡ 34 = ap (λ l. get_or l 1 0) e in omega arith)
no_mark (Name name) x false e = absurd (let h : 63 ≡ 34 = ap (λ l. get_or l 1 0) e in omega arith)
no_mark Item x true e = absurd (let h : 42 ≡ 91 = ap (λ l. get_or l 1 0) e in omega arith)
no_mark Item x false e = absurd (let h : 63 ≡ 91 = ap (λ l. get_or l 1 0) e in omega arith)

pub front_of_text : (front steps : List Step) (all : Bool) (x : List ℕ)
    → steps_text steps ++ mark_text all ≡ steps_text front ++ x → Front front steps
front_of_text [] steps all x e = record { more = steps; whole = refl }
front_of_text (step ∷ front) [] all x e =
    absurd (no_mark step (steps_text front ++ x) all (e ∙ append_assoc (step_text step) (steps_text front) x))
front_of_text (Name a ∷ front) (Name b ∷ steps) all x e =
    let same : found b (steps_text steps ++ mark_text all) ≡ found a (steps_text front ++ x) =
    name_apart b a (steps_text steps ++ mark_text all) (steps_text front ++ x)
    (sym (append_assoc (name_text b) (steps_text steps) (mark_text all)) ∙ e
    ∙ append_assoc (name_text a) (steps_text front) x) in
    let f : Front front steps = front_of_text front steps all x (found_1 b a _ _ same) in
    record {
      more = f.more;
      whole = ap (λ n. Name n ∷ steps) (found_0 b a _ _ same) ∙ ap (λ l. Name a ∷ l) f.whole;
    }
front_of_text (Item ∷ front) (Item ∷ steps) all x e =
    longer Item front steps (front_of_text front steps all x (ap (λ l. drop 3 l) e))
front_of_text (Name a ∷ front) (Item ∷ steps) all x e =
    absurd (let h : 91 ≡ 34 = ap (λ l. get_or l 1 0) e in omega arith)
front_of_text (Item ∷ front) (Name b ∷ steps) all x e =
    absurd (let h : 34 ≡ 91 = ap (λ l. get_or l 1 0) e in omega arith)

pub front_in_text : (front more : List Step) (all : Bool)
    → rule_text (front ++ more) all ≡ steps_text front ++ rule_text more all
front_in_text front more all =
    ap (λ l. l ++ mark_text all) (flat_map-append step_text front more)
    ∙ append_assoc (steps_text front) (steps_text more) (mark_text all)
