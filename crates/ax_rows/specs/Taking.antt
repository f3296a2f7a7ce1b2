-- What rows that come one after another do to what takes them: what holds of it and the rows before
-- then holds of it and all of them.
use Rattle.std.specs.Prelude.{List, [], ◌++◌, Option}
use Rattle.std.specs.List.{filter_map}
use Rattle.std.proofs.Common.{sym, ap, ◌∙◌, subst, append_assoc}
use Rattle.std.proofs.lemmas.List.{append-nil}
use Rattle.std.proofs.lemmas.List.Elements.{filter_map-append}

-- Of the rows xs it takes what is kept where c is asked. What holds is said for all that may be asked
-- and for all rows before.
abbrev pub Gains : {S C X R : Type 0} → (S → C → List R → Type 0) → (C → X → Option R)
    → S → List X → S → Type 0
Gains {S} {C} {X} {R} Holds keeps old xs new =
    (c : C) (before : List R) → Holds old c before → Holds new c (before ++ filter_map (keeps c) xs)

pub gains_none : {S C X R : Type 0} (Holds : S → C → List R → Type 0) (keeps : C → X → Option R)
    (taker : S) → Gains Holds keeps taker [] taker
gains_none Holds keeps taker c before holds = subst (Holds taker c) (sym (append-nil before)) holds

pub gains_both : {S C X R : Type 0} (Holds : S → C → List R → Type 0) (keeps : C → X → Option R)
    (a b d : S) (xs ys : List X) → Gains Holds keeps a xs b → Gains Holds keeps b ys d
    → Gains Holds keeps a (xs ++ ys) d
gains_both Holds keeps a b d xs ys first later c before holds =
    subst (Holds d c)
    (append_assoc before (filter_map (keeps c) xs) (filter_map (keeps c) ys)
    ∙ sym (ap (λ rs. before ++ rs) (filter_map-append (keeps c) xs ys)))
    (later c (before ++ filter_map (keeps c) xs) (first c before holds))
