-- A step of the pass over two rising lists.
use Rattle.std.proofs.Common.{◌≡◌, ◌<◌, List, [], ◌∷◌, ◌++◌, length, drop, arith, refl, ap, ◌∙◌, sym, Bool, true, false, Some, None}
use Rattle.std.proofs.lemmas.List.{append_assoc, append-nil}
use Rattle.std.specs.declared.cmp.Ordering.{Ordering}
use Rattle.std.specs.declared.cmp.Ordering.TheVariants.{Less, Equal, Greater}
use Rattle.ax_pair.specs.declared.pair.Pair.{Pair}
use Rattle.ax_pair.specs.Order.{pair_cmp}
use Rattle.ax_delta.specs.declared.change.Change.{Change}
use Rattle.ax_keep.specs.Net.{change_of, adds, added_first, drop_among, first_cmp, met_by, net}

pub shorter : (left : List Pair) → (left ≡ [] → ⊥) → length (drop 1 left) < length left
shorter [] h = absurd (h refl)
shorter (p ∷ left) h = omega arith

pub shorter_met : (left : List Pair) (p : Pair) (o : Ordering) → Some o ≡ first_cmp left p → length (drop 1 left) < length left
shorter_met [] p o h = absurd (cc)
shorter_met (q ∷ left) p o h = omega arith

-- ---- the pairs behind all old ones

pub added_step : (old out new : List Change) (pairs left whole : List Pair) → left ≡ drop 1 pairs → new ≡ out ++ added_first pairs
    → out ++ adds pairs ≡ old ++ adds whole → new ++ adds left ≡ old ++ adds whole
added_step old out new pairs left whole e f was =
    ap (λ cs. cs ++ adds left) f ∙ ap (λ ps. out ++ added_first pairs ++ adds ps) e ∙ step pairs ∙ was
  where
    step : (ps : List Pair) → out ++ added_first ps ++ adds (drop 1 ps) ≡ out ++ adds ps
    step [] = append-nil (out ++ [])
    step (p ∷ ps) = append_assoc out (change_of true p ∷ []) (adds ps)

pub added_end : (old out : List Change) (pairs whole : List Pair) → pairs ≡ [] → out ++ adds pairs ≡ old ++ adds whole → out ≡ old ++ adds whole
added_end old out pairs whole e was = sym (append-nil out) ∙ ap (λ ps. out ++ adds ps) (sym e) ∙ was

-- ---- those before an old one

among_less : (p : Pair) (others : List Pair → List Change) (pairs : List Pair) → Some Less ≡ first_cmp pairs p
    → drop_among p others pairs ≡ added_first pairs ++ drop_among p others (drop 1 pairs)
among_less p others [] h = absurd (cc)
among_less p others (q ∷ pairs) h =
    let less : pair_cmp q p ≡ Less = cc in
    rw less refl

pub among_step : (old out new : List Change) (pairs left whole : List Pair) (p : Pair) (others : List Pair → List Change) → Some Less ≡ first_cmp pairs p
    → left ≡ drop 1 pairs → new ≡ out ++ added_first pairs
    → out ++ drop_among p others pairs ≡ old ++ drop_among p others whole
    → new ++ drop_among p others left ≡ old ++ drop_among p others whole
among_step old out new pairs left whole p others h e f was =
    ap (λ cs. cs ++ drop_among p others left) f
    ∙ ap (λ ps. out ++ added_first pairs ++ drop_among p others ps) e
    ∙ append_assoc out (added_first pairs) (drop_among p others (drop 1 pairs))
    ∙ ap (λ cs. out ++ cs) (sym (among_less p others pairs h))
    ∙ was

pub met_none : (pairs : List Pair) (p : Pair) → None ≡ first_cmp pairs p → met_by (first_cmp pairs p) ≡ Some false
met_none pairs p h = ap met_by (sym h)

pub met_equal : (pairs : List Pair) (p : Pair) → Some Equal ≡ first_cmp pairs p → met_by (first_cmp pairs p) ≡ Some true
met_equal pairs p h = ap met_by (sym h)

pub met_greater : (pairs : List Pair) (p : Pair) → Some Greater ≡ first_cmp pairs p → met_by (first_cmp pairs p) ≡ Some false
met_greater pairs p h = ap met_by (sym h)

-- ---- the old one

at_equal : (p : Pair) (others : List Pair → List Change) (q : Pair) (pairs : List Pair) (o : Ordering) → o ≡ pair_cmp q p → met_by (Some o) ≡ Some true
    → drop_among p others (q ∷ pairs) ≡ others pairs
at_equal p others q pairs Less e h = absurd (cc)
at_equal p others q pairs Equal e h = rw (sym e) refl
at_equal p others q pairs Greater e h = absurd (cc)

at_greater : (p : Pair) (others : List Pair → List Change) (q : Pair) (pairs : List Pair) (o : Ordering) → o ≡ pair_cmp q p → met_by (Some o) ≡ Some false
    → drop_among p others (q ∷ pairs) ≡ change_of false p ∷ others (q ∷ pairs)
at_greater p others q pairs Less e h = absurd (cc)
at_greater p others q pairs Equal e h = absurd (cc)
at_greater p others q pairs Greater e h = rw (sym e) refl

among_met : (p : Pair) (others : List Pair → List Change) (pairs : List Pair) → met_by (first_cmp pairs p) ≡ Some true
    → drop_among p others pairs ≡ others (drop 1 pairs)
among_met p others [] h = absurd (cc)
among_met p others (q ∷ pairs) h = at_equal p others q pairs (pair_cmp q p) refl h

among_unmet : (p : Pair) (others : List Pair → List Change) (pairs : List Pair) → met_by (first_cmp pairs p) ≡ Some false
    → drop_among p others pairs ≡ change_of false p ∷ others pairs
among_unmet p others [] h = refl
among_unmet p others (q ∷ pairs) h = at_greater p others q pairs (pair_cmp q p) refl h

pub drop_unmet : (out new : List Change) (pairs : List Pair) (p : Pair) (met : Bool) (others : List Pair → List Change)
    → met_by (first_cmp pairs p) ≡ Some met → met ≡ false
    → new ≡ out ++ change_of false p ∷ [] → new ++ others pairs ≡ out ++ drop_among p others pairs
drop_unmet out new pairs p met others h unmet e =
    ap (λ cs. cs ++ others pairs) e ∙ append_assoc out (change_of false p ∷ []) (others pairs)
    ∙ ap (λ cs. out ++ cs) (sym (among_unmet p others pairs (h ∙ ap (λ (b : Bool). Some b) unmet)))

pub drop_met : (out : List Change) (pairs left : List Pair) (p : Pair) (met : Bool) (others : List Pair → List Change)
    → met_by (first_cmp pairs p) ≡ Some met → met ≡ true
    → left ≡ drop 1 pairs → out ++ others left ≡ out ++ drop_among p others pairs
drop_met out pairs left p met others h is_met e =
    ap (λ ps. out ++ others ps) e
    ∙ ap (λ cs. out ++ cs) (sym (among_met p others pairs (h ∙ ap (λ (b : Bool). Some b) is_met)))

-- ---- all old ones

pub net_step : (out between new : List Change) (pairs mid left : List Pair) (p : Pair) (old rest : List Pair) (whole : List Change) → rest ≡ p ∷ old
    → ((others : List Pair → List Change) → between ++ drop_among p others mid ≡ out ++ drop_among p others pairs)
    → ((others : List Pair → List Change) → new ++ others left ≡ between ++ drop_among p others mid)
    → out ++ net rest pairs ≡ whole → new ++ net old left ≡ whole
unfolding net
net_step out between new pairs mid left p old rest whole e f g was =
    g (net old) ∙ f (net old) ∙ ap (λ ps. out ++ net ps pairs) (sym e) ∙ was

nil_from : (pairs : List Pair) → length pairs ≡ 0 → pairs ≡ []
nil_from [] h = refl
nil_from (p ∷ pairs) h = absurd (omega arith)

pub net_end : (out new : List Change) (pairs rest : List Pair) (whole : List Change) → length rest ≡ 0
    → new ≡ out ++ adds pairs → out ++ net rest pairs ≡ whole → new ≡ whole
unfolding net
net_end out new pairs rest whole e f was = f ∙ ap (λ ps. out ++ net ps pairs) (sym (nil_from rest e)) ∙ was

-- ---- what the functions' goals are closed with

pub ruleset adding_up = (among_step, shorter_met, met_none, met_equal, met_greater)

pub ruleset adding_others = (shorter, added_step, added_end)

pub ruleset dropping = (drop_unmet, drop_met)
