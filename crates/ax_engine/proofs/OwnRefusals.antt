-- The own refusal of a query is the one that the causes give to any answer.
use Rattle.std.proofs.Common.{◌≡◌, ℕ, Bool, true, false, ◌∷◌, List, [], Some, None, Result, Ok, Err, refl, sym, ap, subst, not, ◌∙◌}
use Rattle.std.specs.Prelude.{if◌then◌else◌}
use Rattle.ax_lines.specs.Causes.{Cause, unless}
use Rattle.ax_lines.specs.declared.refusal.Refusal.{Refusal}
use Rattle.ax_container.specs.Container.{Container}
use Rattle.ax_lines.specs.declared.refusal.Refusal.TheVariants as refusal
use Rattle.ax_machine.specs.Querying.{causes, rows_of, rows_under}
use Rattle.ax_mean.specs.declared.query.Query.{Query}
use Rattle.ax_policy.specs.declared.policy.Policy.{Policy}
use Rattle.ax_policy.specs.Sameness.{is_orderable}
use Rattle.ax_engine.specs.Replies.{own_refusal, refusal_in}

-- one cause more
with_cause : {A B : Type 0} (applies : Bool) (why : Refusal) (one : Result A Refusal) (other : Result B Refusal)
    → refusal_in one ≡ refusal_in other
    → refusal_in (if applies then Err why else one) ≡ refusal_in (if applies then Err why else other)
with_cause true why one other same = refl
with_cause false why one other same = same

-- it is the same whatever the answer would be
same_refusal : (list : List Cause) (rows : List (List ℕ))
    → refusal_in (unless list (Ok (tt {0}))) ≡ refusal_in (unless list (Ok rows))
same_refusal [] rows = refl
same_refusal (cause ∷ more) rows =
    with_cause cause.applies cause.refusal (unless more (Ok (tt {0}))) (unless more (Ok rows)) (same_refusal more rows)

pub is_refused : (policy : Policy) (query : Query) (why : Refusal)
    → ((answer : Result (List (List ℕ)) Refusal) → unless (causes policy query) answer ≡ Err why)
    → own_refusal policy (Some query) ≡ Some why
is_refused policy query why all = same_refusal (causes policy query) [] ∙ ap refusal_in (all (Ok []))

pub is_answered : (policy : Policy) (query : Query)
    → ((answer : Result (List (List ℕ)) Refusal) → unless (causes policy query) answer ≡ answer)
    → own_refusal policy (Some query) ≡ None
is_answered policy query all = same_refusal (causes policy query) [] ∙ ap refusal_in (all (Ok []))

-- ---- a query that is answered

abbrev as_answer : Result (List (List ℕ)) Refusal → Result (List (List ℕ)) Refusal
as_answer answer = answer

kept_by : (kept : Bool) (why : Refusal) (answer : Result (List (List ℕ)) Refusal) → answer ≡ Ok []
    → (if not kept then Err why else answer) ≡ answer → kept ≡ true
kept_by true why answer rows is = refl
kept_by false why answer rows is = absurd (refused_rows (is ∙ rows))
  where
    refused_rows : as_answer (Err why) ≡ Ok [] → ⊥
    refused_rows same = cc

-- the policy keeps an order for its ORDER BY
pub is_kept : (policy now : Policy) (query : Query) → policy ≡ now
    → ((answer : Result (List (List ℕ)) Refusal) → unless (causes policy query) answer ≡ answer)
    → is_orderable now query.orders ≡ true
is_kept policy now query same all =
    subst (λ p. is_orderable p query.orders ≡ true) same (kept_by (is_orderable policy query.orders) refusal.Order (Ok []) refl (all (Ok [])))

-- and its rows are the answer under it
pub answered_rows : (policy now : Policy) (query : Query) (container : Container) → policy ≡ now
    → ((answer : Result (List (List ℕ)) Refusal) → unless (causes policy query) answer ≡ answer)
    → rows_under now (Some query) container ≡ Ok (rows_of query container)
answered_rows policy now query container same all =
    subst (λ p. rows_under p (Some query) container ≡ Ok (rows_of query container)) same (all (Ok (rows_of query container)))

-- it has no refusal of its own
pub none_own : (policy now : Policy) (query : Query) (why : Refusal) → policy ≡ now
    → ((answer : Result (List (List ℕ)) Refusal) → unless (causes policy query) answer ≡ answer)
    → own_refusal now (Some query) ≡ Some why → ⊥
none_own policy now query why same all own =
    none_some (sym (subst (λ p. own_refusal p (Some query) ≡ None) same (is_answered policy query all)) ∙ own)
  where
    none_some : None ≡ Some why → ⊥
    none_some is = cc
