-- What the first byte of a canonical text tells of its tree.
use Rattle.std.proofs.Common.{◌≡◌, ℕ, ℤ, pos, negsuc, List, [], ◌∷◌, length, Bool, true, false, codes, slice_get, drop, Option, Some, None, IfSome, option_map, ◌||◌, ◌==◌, refl, sym, ap, ◌∙◌, subst}
use Rattle.std.proofs.lemmas.Bool.{both_ways, eqb-false, eq-eqb, or_left, or_right}
use Rattle.std.proofs.lemmas.Option.{same_Some, none-some}
use Rattle.std.specs.Fmt.{signed_decimal, decimal}
use Rattle.std.specs.Char.{is_ascii_digit}
use Rattle.json.specs.Print.{quoted}
use Rattle.ax_tree.specs.CanonicalText.{truth_text, canonical_text, text_level}
use Rattle.ax_tree.specs.WellFormed.{is_of_64_bits}
use Rattle.ax_tree.specs.declared.tree.Tree as tree
use Rattle.ax_tree.specs.declared.tree.Tree.{Tree}
use Rattle.ax_tree.specs.declared.tree.Tree.TheOpen.{Tree-F}
use Rattle.ax_tree.specs.declared.tree.Tree.TheViews.{roll-Tree}
use Rattle.ax_tree.specs.declared.tree.Tree.TheFolds.{map-Tree, ind-Tree}
use Rattle.ax_tree.specs.declared.tree.Tree.TheVariants.{rolls-Null, rolls-Truth, rolls-Number, rolls-Text}
use Rattle.ax_skim.specs.declared.scalar.Scalar.{Scalar}
use Rattle.ax_skim.specs.declared.scalar.Scalar.TheVariants as scalar
use Rattle.ax_skim.specs.Members.{IsPlain}
use Rattle.ax_skim.specs.Scalars.{scalar_tree, IsAtOnce, of_null, of_truth, of_number, of_text, IsWordOf}
use Rattle.ax_skim.proofs.Decimals.{first_is_digit, some_written}
use Rattle.ax_skim.proofs.Passing.{text-roll}

first_and_rest : (bytes : List ℕ) (byte : ℕ) → slice_get bytes 0 ≡ Some byte
    → byte ∷ drop 1 bytes ≡ bytes
first_and_rest [] byte h = absurd (none-some byte h)
first_and_rest (b ∷ bytes) byte h = ap (λ x. x ∷ bytes) (sym (same_Some b byte h))

-- a tree beside its text
pub data Shape : Tree → List ℕ → Type 0 where
  null : Shape tree.Null (codes "null")
  yes : Shape (tree.Truth true) (codes "true")
  no : Shape (tree.Truth false) (codes "false")
  number : (n : ℤ) → Shape (tree.Number n) (signed_decimal n)
  text : (s : List ℕ) → Shape (tree.Text s) (quoted s)
  list : (t : Tree) (more : List ℕ) → Shape t (91 ∷ more)
  object : (t : Tree) (more : List ℕ) → Shape t (123 ∷ more)

abbrev IsShaped : Tree → Type 0
IsShaped t = Shape t (canonical_text t)

abbrev Kept : Type 0
Kept = (t : Tree) × IsShaped t

abbrev tree_of : Kept → Tree
tree_of e = e.0

level_shape : (x : Tree-F Tree)
    → Shape (roll-Tree x) (text_level (map-Tree Tree (List ℕ) canonical_text x))
level_shape Tree-F.Null = subst (λ t. Shape t (codes "null")) (sym rolls-Null) null
level_shape (Tree-F.Truth true) = subst (λ t. Shape t (codes "true")) (sym (rolls-Truth true)) yes
level_shape (Tree-F.Truth false) = subst (λ t. Shape t (codes "false")) (sym (rolls-Truth false)) no
level_shape (Tree-F.Number n) = subst (λ t. Shape t (signed_decimal n)) (sym (rolls-Number n)) (number n)
level_shape (Tree-F.Text s) = subst (λ t. Shape t (quoted s)) (sym (rolls-Text s)) (text s)
level_shape (Tree-F.List es) = list _ _
level_shape (Tree-F.Object ms) = object _ _

told_level : (x : Tree-F Tree) → IsShaped (roll-Tree x)
told_level x = subst (Shape (roll-Tree x)) (sym (text-roll x)) (level_shape x)

pub shape : (t : Tree) → IsShaped t
shape = ind-Tree IsShaped (λ x y is. told_level x)

other : {A : Type 0} (a b : ℕ) → (a == b) ≡ false → Some a ≡ Some b → A
other a b apart h = absurd (eqb-false a b apart (same_Some a b h))

number_first : (n : ℤ) (byte : ℕ) → slice_get (signed_decimal n) 0 ≡ Some byte
    → (is_ascii_digit byte || (byte == 45)) ≡ true
number_first (pos n) byte h =
    or_left _ _ (first_is_digit n byte (drop 1 (decimal n)) (first_and_rest (decimal n) byte h))
number_first (negsuc n) byte h =
    or_right _ _ (eq-eqb byte 45 (sym (same_Some 45 byte h)))

not_a_number : {A : Type 0} (n : ℤ) (byte : ℕ) → (is_ascii_digit byte || (byte == 45)) ≡ false
    → slice_get (signed_decimal n) 0 ≡ Some byte → A
not_a_number n byte apart h = absurd (both_ways _ apart (number_first n byte h))

null_first : {t : Tree} {bytes : List ℕ} → Shape t bytes → slice_get bytes 0 ≡ Some 110
    → tree.Null ≡ t
null_first null h = refl
null_first yes h = other 116 110 refl h
null_first no h = other 102 110 refl h
null_first (number n) h = not_a_number n 110 refl h
null_first (text s) h = other 34 110 refl h
null_first (list t more) h = other 91 110 refl h
null_first (object t more) h = other 123 110 refl h

true_first : {t : Tree} {bytes : List ℕ} → Shape t bytes → slice_get bytes 0 ≡ Some 116
    → tree.Truth true ≡ t
true_first null h = other 110 116 refl h
true_first yes h = refl
true_first no h = other 102 116 refl h
true_first (number n) h = not_a_number n 116 refl h
true_first (text s) h = other 34 116 refl h
true_first (list t more) h = other 91 116 refl h
true_first (object t more) h = other 123 116 refl h

false_first : {t : Tree} {bytes : List ℕ} → Shape t bytes → slice_get bytes 0 ≡ Some 102
    → tree.Truth false ≡ t
false_first null h = other 110 102 refl h
false_first yes h = other 116 102 refl h
false_first no h = refl
false_first (number n) h = not_a_number n 102 refl h
false_first (text s) h = other 34 102 refl h
false_first (list t more) h = other 91 102 refl h
false_first (object t more) h = other 123 102 refl h

-- what is read of the text is the tree
abbrev Reads : Option Scalar → Tree → Type 0
Reads found t = IfSome found (λ scalar. scalar_tree scalar ≡ t)

text_first : {t : Tree} {bytes : List ℕ} (found : Option Scalar) → Shape t bytes
    → slice_get bytes 0 ≡ Some 34 → ((s : List ℕ) → bytes ≡ quoted s → Reads found (tree.Text s))
    → Reads found t
text_first found null h read = other 110 34 refl h
text_first found yes h read = other 116 34 refl h
text_first found no h read = other 102 34 refl h
text_first found (number n) h read = not_a_number n 34 refl h
text_first found (text s) h read = read s refl
text_first found (list t more) h read = other 91 34 refl h
text_first found (object t more) h read = other 123 34 refl h

digit_is_not : {A : Type 0} (a byte : ℕ) → (is_ascii_digit a || (a == 45)) ≡ false
    → (is_ascii_digit byte || (byte == 45)) ≡ true → Some a ≡ Some byte → A
digit_is_not a byte apart is h =
    absurd (both_ways _ apart (ap (λ b. is_ascii_digit b || (b == 45)) (same_Some a byte h) ∙ is))

digit_first : {t : Tree} {bytes : List ℕ} (found : Option Scalar) (byte : ℕ) → Shape t bytes
    → slice_get bytes 0 ≡ Some byte → (is_ascii_digit byte || (byte == 45)) ≡ true
    → ((n : ℤ) → bytes ≡ signed_decimal n → Reads found (tree.Number n)) → Reads found t
digit_first found byte null h is read = digit_is_not 110 byte refl is h
digit_first found byte yes h is read = digit_is_not 116 byte refl is h
digit_first found byte no h is read = digit_is_not 102 byte refl is h
digit_first found byte (number n) h is read = read n refl
digit_first found byte (text s) h is read = digit_is_not 34 byte refl is h
digit_first found byte (list t more) h is read = digit_is_not 91 byte refl is h
digit_first found byte (object t more) h is read = digit_is_not 123 byte refl is h

along : (t : Tree) (bytes : List ℕ) → bytes ≡ canonical_text t → Shape t bytes
along t bytes is = subst (Shape t) (sym is) (shape t)

pub is_null : (t : Tree) (bytes : List ℕ) → bytes ≡ canonical_text t
    → slice_get bytes 0 ≡ Some 110 → tree.Null ≡ t
is_null t bytes is h = null_first (along t bytes is) h

pub is_true : (t : Tree) (bytes : List ℕ) → bytes ≡ canonical_text t
    → slice_get bytes 0 ≡ Some 116 → tree.Truth true ≡ t
is_true t bytes is h = true_first (along t bytes is) h

pub is_false : (t : Tree) (bytes : List ℕ) → bytes ≡ canonical_text t
    → slice_get bytes 0 ≡ Some 102 → tree.Truth false ≡ t
is_false t bytes is h = false_first (along t bytes is) h

pub is_text : (t : Tree) (bytes : List ℕ) (found : Option Scalar) → bytes ≡ canonical_text t
    → slice_get bytes 0 ≡ Some 34 → ((s : List ℕ) → bytes ≡ quoted s → Reads found (tree.Text s))
    → Reads found t
is_text t bytes found is h read = text_first found (along t bytes is) h read

pub is_number : (t : Tree) (bytes : List ℕ) (byte : ℕ) (found : Option Scalar)
    → bytes ≡ canonical_text t → slice_get bytes 0 ≡ Some byte
    → (is_ascii_digit byte || (byte == 45)) ≡ true
    → ((n : ℤ) → bytes ≡ signed_decimal n → Reads found (tree.Number n)) → Reads found t
is_number t bytes byte found is h digit read = digit_first found byte (along t bytes is) h digit read

-- ---- the texts of scalars

pub null_text : canonical_text tree.Null ≡ codes "null"
null_text = ap canonical_text (sym rolls-Null) ∙ text-roll Tree-F.Null

pub truth_is : (value : Bool) → canonical_text (tree.Truth value) ≡ truth_text value
truth_is value = ap canonical_text (sym (rolls-Truth value)) ∙ text-roll (Tree-F.Truth value)

pub number_text : (n : ℤ) → canonical_text (tree.Number n) ≡ signed_decimal n
number_text n = ap canonical_text (sym (rolls-Number n)) ∙ text-roll (Tree-F.Number n)

pub text_text : (s : List ℕ) → canonical_text (tree.Text s) ≡ quoted s
text_text s = ap canonical_text (sym (rolls-Text s)) ∙ text-roll (Tree-F.Text s)

-- ---- scalars that are given

-- of a text that begins with a quote
pub given_text : (t : Tree) (bytes : List ℕ) (found : Option Scalar) → IsAtOnce t
    → bytes ≡ canonical_text t → slice_get bytes 0 ≡ Some 34
    → ((s : List ℕ) → IsPlain s → bytes ≡ quoted s → option_map scalar_tree found ≡ Some (tree.Text s))
    → option_map scalar_tree found ≡ Some t
given_text t bytes found at is h read = by at (sym (ap (λ l. slice_get l 0) is) ∙ h) is
  where
    by : {u : Tree} → IsAtOnce u → slice_get (canonical_text u) 0 ≡ Some 34 → bytes ≡ canonical_text u
        → option_map scalar_tree found ≡ Some u
    by of_null h is = other 110 34 refl (sym (ap (λ l. slice_get l 0) null_text) ∙ h)
    by (of_truth true) h is = other 116 34 refl (sym (ap (λ l. slice_get l 0) (truth_is true)) ∙ h)
    by (of_truth false) h is = other 102 34 refl (sym (ap (λ l. slice_get l 0) (truth_is false)) ∙ h)
    by (of_number n fits) h is = not_a_number n 34 refl (sym (ap (λ l. slice_get l 0) (number_text n)) ∙ h)
    by (of_text s own) h is = read s own (is ∙ text_text s)

-- of one that begins as a number does
pub given_number : (t : Tree) (bytes : List ℕ) (byte : ℕ) (found : Option Scalar) → IsAtOnce t
    → bytes ≡ canonical_text t → slice_get bytes 0 ≡ Some byte
    → (is_ascii_digit byte || (byte == 45)) ≡ true
    → ((n : ℤ) → is_of_64_bits n ≡ true → bytes ≡ signed_decimal n
    → option_map scalar_tree found ≡ Some (tree.Number n))
    → option_map scalar_tree found ≡ Some t
given_number t bytes byte found at is h digit read = by at (sym (ap (λ l. slice_get l 0) is) ∙ h) is
  where
    by : {u : Tree} → IsAtOnce u → slice_get (canonical_text u) 0 ≡ Some byte → bytes ≡ canonical_text u
        → option_map scalar_tree found ≡ Some u
    by of_null h is = digit_is_not 110 byte refl digit (sym (ap (λ l. slice_get l 0) null_text) ∙ h)
    by (of_truth true) h is = digit_is_not 116 byte refl digit (sym (ap (λ l. slice_get l 0) (truth_is true)) ∙ h)
    by (of_truth false) h is = digit_is_not 102 byte refl digit (sym (ap (λ l. slice_get l 0) (truth_is false)) ∙ h)
    by (of_number n fits) h is = read n fits (is ∙ number_text n)
    by (of_text s own) h is = digit_is_not 34 byte refl digit (sym (ap (λ l. slice_get l 0) (text_text s)) ∙ h)

-- ---- words

pub word_same : (bytes : List ℕ) (found : Option Scalar) → IsWordOf bytes found
    → (t : Tree) → bytes ≡ canonical_text t → Reads found t
word_same bytes None word t is = tt
word_same bytes (Some scalar.Null) word t is = is_null t bytes is (ap (λ l. slice_get l 0) word)
word_same bytes (Some (scalar.Truth true)) word t is = is_true t bytes is (ap (λ l. slice_get l 0) word)
word_same bytes (Some (scalar.Truth false)) word t is = is_false t bytes is (ap (λ l. slice_get l 0) word)
word_same bytes (Some (scalar.Number n)) word t is = absurd word
word_same bytes (Some (scalar.Text s)) word t is = absurd word

pub word_written : (bytes : List ℕ) (found : Option Scalar) → IsWordOf bytes found
    → IfSome found (λ scalar. bytes ≡ canonical_text (scalar_tree scalar))
word_written bytes None word = tt
word_written bytes (Some scalar.Null) word = word ∙ sym null_text
word_written bytes (Some (scalar.Truth value)) word = word ∙ sym (truth_is value)
word_written bytes (Some (scalar.Number n)) word = absurd word
word_written bytes (Some (scalar.Text s)) word = absurd word

pub given_word : (t : Tree) (bytes : List ℕ) (byte : ℕ) (found : Option Scalar) → IsWordOf bytes found
    → IsAtOnce t → bytes ≡ canonical_text t → slice_get bytes 0 ≡ Some byte → (byte ≡ 34 → ⊥)
    → (is_ascii_digit byte || (byte == 45)) ≡ false → option_map scalar_tree found ≡ Some t
given_word t bytes byte (Some s) word at is h quote digit = ap Some (word_same bytes (Some s) word t is)
given_word t bytes byte None word at is h quote digit = by at is
  where
    first : {l : List ℕ} → bytes ≡ l → slice_get l 0 ≡ Some byte
    first same = ap (λ l. slice_get l 0) (sym same) ∙ h

    by : {u : Tree} → IsAtOnce u → bytes ≡ canonical_text u → None ≡ Some u
    by of_null is = absurd (word.0 (is ∙ null_text))
    by (of_truth value) is = absurd (word.1 value (is ∙ truth_is value))
    by (of_number n fits) is = not_a_number n byte digit (first (is ∙ number_text n))
    by (of_text s own) is = absurd (quote (sym (same_Some 34 byte (first (is ∙ text_text s)))))

pub no_truth : (bytes : List ℕ) → (bytes ≡ codes "true" → ⊥) → (bytes ≡ codes "false" → ⊥)
    → (value : Bool) → bytes ≡ truth_text value → ⊥
no_truth bytes apart other true is = apart is
no_truth bytes apart other false is = other is

-- such a text has a first byte
pub some_first : (t : Tree) (bytes : List ℕ) → IsAtOnce t → bytes ≡ canonical_text t
    → slice_get bytes 0 ≡ None → ⊥
some_first t bytes at is none = by at is
  where
    left : {l : List ℕ} {byte : ℕ} → bytes ≡ l → slice_get l 0 ≡ Some byte → ⊥
    left same h = none-some _ (sym none ∙ ap (λ l. slice_get l 0) same ∙ h)

    empty : (l : List ℕ) → slice_get l 0 ≡ None → length l ≡ 0
    empty [] h = refl
    empty (x ∷ l) h = absurd (none-some x (sym h))

    by : {u : Tree} → IsAtOnce u → bytes ≡ canonical_text u → ⊥
    by of_null is = left (is ∙ null_text) refl
    by (of_truth true) is = left (is ∙ truth_is true) refl
    by (of_truth false) is = left (is ∙ truth_is false) refl
    by (of_number n fits) is = some_written n bytes fits (is ∙ number_text n) (empty bytes none)
    by (of_text s own) is = left (is ∙ text_text s) refl
