-- The paths along which a query looks at a document: one more, and those of parts one after another.
use Rattle.std.proofs.Common.{◌≡◌, ℕ, List, [], ◌∷◌, ◌++◌, Bool, true, false, ◌&&◌, Result, Ok, Err, OnOk, refl, ap, sym, ◌∙◌}
use Rattle.std.specs.Borrow.{Bor}
use Rattle.ax_mean.specs.declared.expr.Expr.{Expr}
use Rattle.ax_mean.specs.declared.expr.QueryStep.{QueryStep}
use Rattle.ax_excerpt.specs.declared.excerpt.Excerpt.{Excerpt}
use Rattle.ax_excerpt.specs.Excerpts.{keeps}
use Rattle.ax_excerpt.specs.Enough.{within}
use Rattle.ax_excerpt.specs.Needs.{keeps_all}
use Rattle.ax_excerpt.specs.Uses.{uses_in, parts_alone}
use Rattle.ax_excerpt.proofs.UsesByParts.{is_path, uses_by_parts}

pub with_true : (a : Bool) → (a && true) ≡ a
with_true true = refl
with_true false = refl

pub three : (a b c : Bool) → ((a && b) && c) ≡ (a && (b && c))
three true b c = refl
three false b c = refl

put_behind : (e : Excerpt) (paths : List (Bor (List QueryStep))) (path : Bor (List QueryStep))
    → keeps_all e (paths ++ path ∷ []) ≡ (keeps_all e paths && keeps e path.now)
put_behind e [] path = with_true (keeps e path.now)
put_behind e (p ∷ ps) path =
    ap (λ rest. keeps e p.now && rest) (put_behind e ps path)
    ∙ sym (three (keeps e p.now) (keeps_all e ps) (keeps e path.now))

pub one_more : (e : Excerpt) (old new : List (Bor (List QueryStep))) (path : Bor (List QueryStep))
    → new ≡ old ++ path ∷ [] → keeps_all e new ≡ (keeps_all e old && keeps e path.now)
one_more e old new path is = ap (keeps_all e) is ∙ put_behind e old path

-- what is looked at first, and then the rest
pub goes_on : (old new first rest : Bool) → new ≡ (old && first)
    → (new && rest) ≡ (old && (first && rest))
goes_on old new first rest is = ap (λ (a : Bool). a && rest) is ∙ three old first rest

-- an expression that is no alias and has no steps looks at what its parts look at
pub by_parts : {T E : Type 0} (r : Result T E) (alias : List ℕ) (x : Expr) (steps : List QueryStep)
    (old new : List (Bor (List QueryStep))) → is_path x ≡ false
    → OnOk r ((e : Excerpt) → keeps_all e new ≡ (keeps_all e old && parts_alone (within alias e) x))
    → OnOk r ((e : Excerpt) → keeps_all e new ≡ (keeps_all e old && uses_in (within alias e) x steps))
by_parts (Ok done) alias x steps old new apart so = λ e.
    so e ∙ ap (λ b. keeps_all e old && b) (sym (uses_by_parts (within alias e) x steps apart))
by_parts (Err fault) alias x steps old new apart so = so
