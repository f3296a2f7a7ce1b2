-- The pairs of a document: rising terms with one number, the term of the id in front.
use Rattle.std.proofs.Common.{◌≡◌, ℕ, List, [], ◌∷◌, ◌++◌, refl, ap, ◌∙◌, sym, subst, Bool, true, false, cond, ◌&&◌, ⊎_elim, ◌⊎◌, inl, inr, Option}
use Rattle.std.proofs.Common.{Some, None, arith, length}
use Rattle.std.specs.Prelude.{◌↔◌, IsSome}
use Rattle.std.proofs.lemmas.List.{append_assoc, append-nil}
use Rattle.std.specs.List.{Contains}
use Rattle.std.specs.Cmp.Lexicographic.{slice_cmp}
use Rattle.std.specs.Ordering.{nat_cmp, is_lt, ordering_then}
use Rattle.std.specs.declared.cmp.Ordering.{Ordering}
use Rattle.std.specs.declared.cmp.Ordering.TheVariants.{Less, Equal, Greater}
use Rattle.ax_tree.specs.Rising.{is_before, is_rising}
use Rattle.ax_tree.specs.declared.tree.Tree.{Tree}
use Rattle.ax_tree.specs.Document.{document_id}
use Rattle.ax_pair.specs.declared.pair.Pair.{Pair}
use Rattle.ax_pair.specs.Order.{pair_cmp, Rise, RiseAfter}
use Rattle.ax_delta.specs.Said.{is_same, has}
use Rattle.ax_delta.proofs.SamePair.{the_pair, true_or_false, same_from, same_to}
use Rattle.ax_policy.specs.declared.policy.Policy.{Policy}
use Rattle.ax_term.specs.TermBytes.{term_bytes}
use Rattle.ax_term.specs.Terms.{Term}
use Rattle.ax_terms.specs.TermsOf.{HasTerm}
use Rattle.ax_keep.specs.Owned.{IsIdTerm}
use Rattle.ax_keep.specs.Owned.{AreOwned, Owns, with_number}
use Rattle.ax_keep.proofs.Exchanging.{first_or_rest, in_first, in_rest, none_there}

-- ---- order

is_less : (o : Ordering) → is_lt o ≡ true → o ≡ Less
is_less Less h = refl
is_less Equal h = absurd cc
is_less Greater h = absurd cc

pub before_then : (s t : List ℕ) (number : ℕ) → is_before s t ≡ true → pair_cmp (the_pair s number) (the_pair t number) ≡ Less
before_then s t number h = ap (λ o. ordering_then o (nat_cmp number number)) (is_less (slice_cmp nat_cmp s t) h)

both_true : (a b : Bool) → (a && b) ≡ true → (a ≡ true) × (b ≡ true)
both_true true b h = (refl, h)
both_true false b h = absurd (cc)

pub rises_on : (t : List ℕ) (number : ℕ) (terms : List (List ℕ)) → is_rising (t ∷ terms) ≡ true → RiseAfter (the_pair t number) (with_number number terms)
rises_on t number [] h = tt
rises_on t number (u ∷ terms) h =
    let both = both_true (is_before t u) (is_rising (u ∷ terms)) h in
    (before_then t u number both.0, rises_on u number terms both.1)

pub rises_behind : (id : List ℕ) (number : ℕ) (terms : List (List ℕ)) → ((t : List ℕ) → Contains terms t → is_before id t ≡ true)
    → is_rising terms ≡ true → Rise (the_pair id number ∷ with_number number terms)
rises_behind id number [] above h = tt
rises_behind id number (t ∷ terms) above h = (before_then id t number (above t (in_first t terms t refl)), rises_on t number terms h)

-- ---- the term of an id is before all others

-- a term that is none of an id begins with 2 or 3
pub begins_later : (policy : Policy) (given : Tree) (t id : List ℕ) → HasTerm policy given t → is_before (term_bytes (Term.Id id)) t ≡ true
begins_later policy given t id (inl (leaf, there, covers, is)) = ap (is_before (term_bytes (Term.Id id))) is
begins_later policy given t id (inr (composite, there, is)) = ap (is_before (term_bytes (Term.Id id))) is

-- ---- what it has

pub has_first : (p x : Pair) (pairs : List Pair) → p ≡ x → has x (p ∷ pairs) ≡ true
has_first p x pairs e = ap (λ b. cond b true (has x pairs)) (same_to p x e)

pub has_later : (p x : Pair) (pairs : List Pair) → has x pairs ≡ true → has x (p ∷ pairs) ≡ true
has_later p x pairs h =
    elim (is_same p x) as (λ b. cond b true (has x pairs) ≡ true) [ true ↦ refl | false ↦ h ]

pub has_cases : (p x : Pair) (pairs : List Pair) → has x (p ∷ pairs) ≡ true → (p ≡ x) ⊎ (has x pairs ≡ true)
has_cases p x pairs h =
    ⊎_elim
    (λ (s : is_same p x ≡ true). inl (same_from p x s))
    (λ (s : is_same p x ≡ false). inr (sym (ap (λ b. cond b true (has x pairs)) s) ∙ h))
    (true_or_false (is_same p x))

pub with_number_has : (number : ℕ) (terms : List (List ℕ)) (x : Pair)
    → (has x (with_number number terms) ≡ true) ↔ ((x.number ≡ number) × Contains terms x.term)
with_number_has number [] x = ((λ h. absurd cc), (λ h. absurd (none_there x.term h.1)))
with_number_has number (t ∷ terms) x = (
  (λ h.
      ⊎_elim
      (λ (e : the_pair t number ≡ x). (ap (λ (p : Pair). p.number) (sym e), in_first t terms x.term (ap (λ (p : Pair). p.term) e)))
      (λ (k : has x (with_number number terms) ≡ true). let rest = (with_number_has number terms x).0 k in (rest.0, in_rest t terms x.term rest.1))
      (has_cases (the_pair t number) x (with_number number terms) h)),
  (λ h.
      ⊎_elim
      (λ (e : t ≡ x.term). has_first (the_pair t number) x (with_number number terms) (λ i. record { term = e i; number = sym h.0 i }))
      (λ (k : Contains terms x.term). has_later (the_pair t number) x (with_number number terms) ((with_number_has number terms x).1 (h.0, k)))
      (first_or_rest t terms x.term h.1)),
)

-- ---- the pairs of a document

abbrev pub document_pairs : ℕ → List ℕ → List (List ℕ) → List Pair
document_pairs number id terms = the_pair (term_bytes (Term.Id id)) number ∷ with_number number terms

same_some : (x y : List ℕ) → Some x ≡ Some y → x ≡ y
same_some x y e = cc

module _ (policy : Policy) (given : Tree) (number : ℕ) (id : List ℕ) (terms : List (List ℕ)) (own : document_id given ≡ Some id)
    (exact : (bytes : List ℕ) → Contains terms bytes ↔ HasTerm policy given bytes) where
  pub document_rises : is_rising terms ≡ true → Rise (document_pairs number id terms)
  document_rises h = rises_behind (term_bytes (Term.Id id)) number terms (λ t there. begins_later policy given t id ((exact t).0 there)) h

  id_term_is : (bytes : List ℕ) → IsIdTerm given bytes → term_bytes (Term.Id id) ≡ bytes
  id_term_is bytes is = ap (λ i. term_bytes (Term.Id i)) (same_some id is.id (sym own ∙ is.own)) ∙ sym is.is

  pub document_owns : (x : Pair) → (has x (document_pairs number id terms) ≡ true) ↔ Owns number policy (Some given) x
  document_owns x = (
    (λ h.
        ⊎_elim
        (λ (e : the_pair (term_bytes (Term.Id id)) number ≡ x).
        (ap (λ (p : Pair). p.number) (sym e), inl (record { id = id; own = own; is = ap (λ (p : Pair). p.term) (sym e) })))
        (λ (k : has x (with_number number terms) ≡ true).
        let rest = (with_number_has number terms x).0 k in (rest.0, inr ((exact x.term).0 rest.1)))
        (has_cases (the_pair (term_bytes (Term.Id id)) number) x (with_number number terms) h)),
    (λ h.
        ⊎_elim
        (λ (is : IsIdTerm given x.term).
        has_first (the_pair (term_bytes (Term.Id id)) number) x (with_number number terms) (λ i. record { term = id_term_is x.term is i; number = sym h.0 i }))
        (λ (is : HasTerm policy given x.term).
        has_later (the_pair (term_bytes (Term.Id id)) number) x (with_number number terms) ((with_number_has number terms x).1 (h.0, (exact x.term).1 is)))
        h.1),
  )

pub nothing_owned : (number : ℕ) (policy : Policy) (x : Pair) → (has x [] ≡ true) ↔ Owns number policy None x
nothing_owned number policy x = ((λ h. absurd cc), (λ h. absurd h.1))

-- ---- the loop over terms

pub put_step : (number : ℕ) (out new whole : List Pair) (t : List ℕ) (terms rest : List (List ℕ)) → rest ≡ t ∷ terms → new ≡ out ++ the_pair t number ∷ []
    → out ++ with_number number rest ≡ whole → new ++ with_number number terms ≡ whole
put_step number out new whole t terms rest e f was =
    ap (λ ps. ps ++ with_number number terms) f ∙ append_assoc out (the_pair t number ∷ []) (with_number number terms)
    ∙ ap (λ ts. out ++ with_number number ts) (sym e) ∙ was

nil_from : (terms : List (List ℕ)) → length terms ≡ 0 → terms ≡ []
nil_from [] h = refl
nil_from (t ∷ terms) h = absurd (omega arith)

pub put_end : (number : ℕ) (out whole : List Pair) (rest : List (List ℕ)) → length rest ≡ 0 → out ++ with_number number rest ≡ whole → out ≡ whole
put_end number out whole rest e was = sym (append-nil out) ∙ ap (λ ts. out ++ with_number number ts) (sym (nil_from rest e)) ∙ was

-- ---- what the functions make

none_owned : (number : ℕ) (policy : Policy) → AreOwned number policy None []
none_owned number policy = record { rise = tt; exact = nothing_owned number policy }

pub no_pairs : (number : ℕ) (policy : Policy) (document : Option Tree) (pairs : List Pair) → document ≡ None → pairs ≡ []
    → AreOwned number policy document pairs
no_pairs number policy document pairs e f =
    subst (λ d. AreOwned number policy d pairs) (sym e) (subst (λ ps. AreOwned number policy None ps) (sym f) (none_owned number policy))

pub made_pairs : (policy : Policy) (given : Tree) (number : ℕ) (terms : List (List ℕ)) (start mid end : List Pair)
    → IsSome (document_id given)
    → ((id : List ℕ) → document_id given ≡ Some id → mid ≡ start ++ the_pair (term_bytes (Term.Id id)) number ∷ []) → start ≡ []
    → end ≡ mid ++ with_number number terms → is_rising terms ≡ true
    → ((bytes : List ℕ) → Contains terms bytes ↔ HasTerm policy given bytes) → AreOwned number policy (Some given) end
made_pairs policy given number terms start mid end is put none more up exact = by_id (document_id given) refl is
  where
    by_id : (o : Option (List ℕ)) → document_id given ≡ o → IsSome o → AreOwned number policy (Some given) end
    by_id None own h = absurd (cc)
    by_id (Some id) own h =
        let first : mid ≡ the_pair (term_bytes (Term.Id id)) number ∷ [] =
        put id own ∙ ap (λ ps. ps ++ the_pair (term_bytes (Term.Id id)) number ∷ []) none in
        let all : end ≡ document_pairs number id terms = more ∙ ap (λ ps. ps ++ with_number number terms) first in
        subst (AreOwned number policy (Some given)) (sym all)
        (record {
          rise = document_rises policy given number id terms own exact up;
          exact = document_owns policy given number id terms own exact;
        })
