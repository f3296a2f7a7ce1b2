-- Of a repeated name the member that is put last counts, and each other name keeps its value.
use Rattle.std.proofs.Common.{◌≡◌, ℕ, List, [], ◌∷◌, ◌++◌, Bool, true, false, true≢false, cond}
use Rattle.std.proofs.Common.{Option, Some, Ordering, Less, Equal, Greater, refl, sym, ap, ◌∙◌}
use Rattle.std.specs.Cmp.Lexicographic.{slice_cmp}
use Rattle.std.specs.Ordering.{nat_cmp, is_eq, match_ordering}
use Rattle.std.specs.Str.{bytes_eq}
use Rattle.std.proofs.lemmas.Grind.{fold-append}
use Rattle.std.proofs.lemmas.Map.Text.{is_eq-slice_cmp}
use Rattle.std.proofs.lemmas.Slice.Eq.{bytes_eq-Decides}
use Rattle.ax_tree.specs.Document.{value_of}
use Rattle.ax_tree.specs.declared.members.Member.{Member}
use Rattle.ax_tree.specs.declared.tree.Tree.{Tree}
use Rattle.ax_lines.specs.Bodies.{with_parameter, by_name}

-- the value of a name, where this one may come before others
abbrev pub unless_it : List ℕ → List ℕ → Tree → Option Tree → Option Tree
unless_it own name value other = cond (bytes_eq own name) (Some value) other

head : (name : List ℕ) (m : Member Tree) (ms : List (Member Tree))
    → value_of name (m ∷ ms) ≡ unless_it m.name name m.value (value_of name ms)
head name m ms = by_test (bytes_eq m.name name) refl
  where
    by_test : (b : Bool) → bytes_eq m.name name ≡ b
        → value_of name (m ∷ ms) ≡ unless_it m.name name m.value (value_of name ms)
    by_test true is = rw is refl
    by_test false is = rw is refl

-- the second of two values under one name plays no part
twice : (b : Bool) (x y other : Option Tree) → cond b x other ≡ cond b x (cond b y other)
twice true x y other = refl
twice false x y other = refl

-- tests that are not both true may change places
swapped : (a b : Bool) (x y other : Option Tree) → (a ≡ true → b ≡ true → ⊥)
    → cond a x (cond b y other) ≡ cond b y (cond a x other)
swapped true true x y other apart = absurd (apart refl refl)
swapped true false x y other apart = refl
swapped false b x y other apart = refl

same_from_Equal : (a b : List ℕ) → slice_cmp nat_cmp a b ≡ Equal → a ≡ b
same_from_Equal a b e =
    (bytes_eq-Decides a b).0 (sym (is_eq-slice_cmp a b) ∙ ap is_eq e)

apart_from_Greater : (a b name : List ℕ) → slice_cmp nat_cmp a b ≡ Greater
    → bytes_eq b name ≡ true → bytes_eq a name ≡ true → ⊥
apart_from_Greater a b name e first second =
    let same : a ≡ b =
    (bytes_eq-Decides a name).0 second ∙ sym ((bytes_eq-Decides b name).0 first) in
    true≢false (sym ((bytes_eq-Decides a b).1 same) ∙ sym (is_eq-slice_cmp a b) ∙ ap is_eq e)

pub found : (name : List ℕ) (ms : List (Member Tree)) (m : Member Tree)
    → value_of name (with_parameter ms m) ≡ unless_it m.name name m.value (value_of name ms)
found name [] m = head name m []
found name (first ∷ rest) m =
    by_order (slice_cmp nat_cmp m.name first.name) refl (found name rest m)
  where
    by_order : (o : Ordering) → slice_cmp nat_cmp m.name first.name ≡ o
        → value_of name (with_parameter rest m) ≡ unless_it m.name name m.value (value_of name rest)
        → value_of name (match_ordering o (m ∷ first ∷ rest)
        (record { name = first.name; value = m.value } ∷ rest) (first ∷ with_parameter rest m))
        ≡ unless_it m.name name m.value (value_of name (first ∷ rest))
    by_order Less is later = head name m (first ∷ rest)
    by_order Equal is later =
        head name (record { name = first.name; value = m.value }) rest
        ∙ ap (λ n. unless_it n name m.value (value_of name rest))
        (sym (same_from_Equal m.name first.name is))
        ∙ twice (bytes_eq m.name name) (Some m.value) (Some first.value) (value_of name rest)
        ∙ ap (λ n. unless_it m.name name m.value
        (unless_it n name first.value (value_of name rest)))
        (same_from_Equal m.name first.name is)
        ∙ ap (unless_it m.name name m.value) (sym (head name first rest))
    by_order Greater is later =
        head name first (with_parameter rest m)
        ∙ ap (unless_it first.name name first.value) later
        ∙ swapped (bytes_eq first.name name) (bytes_eq m.name name) (Some first.value)
        (Some m.value) (value_of name rest) (apart_from_Greater m.name first.name name is)
        ∙ ap (unless_it m.name name m.value) (sym (head name first rest))

pub last_counts : (name : List ℕ) (written : List (Member Tree)) (m : Member Tree)
    → value_of name (by_name (written ++ m ∷ []))
    ≡ unless_it m.name name m.value (value_of name (by_name written))
last_counts name written m =
    ap (value_of name) (fold-append with_parameter [] written (m ∷ []))
    ∙ found name (by_name written) m
