-- Bytes lead to one contents, or are spoiled at one offset, and not both.
use Rattle.std.proofs.Common.{◌≡◌, ℕ, ◌+◌, List, [], ◌∷◌, ◌++◌, length, refl, sym, ap, subst, ◌∙◌}
use Rattle.std.specs.Prelude.{◌≢◌, Some, None, option_and_then, unwrap_or}
use Rattle.std.specs.List.{flat_map}
use Rattle.std.proofs.lemmas.List.{append_assoc, append-nil}
use Rattle.ax_frame.specs.Part.{PartValue, AllFit, part_bytes, parts_bytes}
use Rattle.ax_frame.specs.LogFrame.{open_frame}
use Rattle.ax_frame.proofs.Parts as parts
use Rattle.ax_pages.specs.Contents.{Contents}
use Rattle.ax_pages.specs.AfterPart.{after_part, after_parts}
use Rattle.ax_pages.specs.Leads.{Leads, IsRefused, IsSpoiled, LeadOn, AreSpoiled}

pub same_some : {A : Type 0} (x y : A) → Some x ≡ Some y → x ≡ y
same_some x y e = ap (λ found. unwrap_or found x) e

some_or_none : {A : Type 0} (x : A) → None ≡ Some x → ⊥
some_or_none x e = cc

-- parts lead by way of what the first of them leads to
pub record StepsBy (part : PartValue) (parts : List PartValue) (before after : Contents) : Type 0 where
  pub between : Contents
  pub first : after_part part before ≡ Some between
  pub others : after_parts parts between ≡ Some after

pub first_step : (part : PartValue) (parts : List PartValue) (before after : Contents) → after_parts (part ∷ parts) before ≡ Some after
    → StepsBy part parts before after
first_step part parts before after lead =
    elim (after_part part before) as (λ found. after_part part before ≡ found → option_and_then (after_parts parts) found ≡ Some after
    → StepsBy part parts before after) [
      | None ↦ λ is e. absurd (some_or_none after e)
      | Some between ↦ λ is e. record { between = between; first = is; others = e }
    ] refl lead

-- a part that leads on is not refused
not_refused : (part : PartValue) (parts : List PartValue) (rest : List ℕ) (bytes : List ℕ) (before after : Contents) → AllFit (part ∷ parts)
    → bytes ≡ parts_bytes (part ∷ parts) ++ rest
    → after_parts (part ∷ parts) before ≡ Some after → IsRefused bytes before → ⊥
not_refused part parts rest bytes before after fit spelled lead refused =
    let step = first_step part parts before after lead in
    let none = refused part (parts_bytes parts ++ rest) (record { fit = fit.0; spelled = spelled ∙ append_assoc (part_bytes part) (parts_bytes parts) rest }) in
    some_or_none step.between (sym none ∙ step.first)

-- the first parts of two lists that spell the same, and what follows each
record SameFirst (p q : PartValue) (ps qs : List PartValue) (x y : List ℕ) : Type 0 where
  first : p ≡ q
  others : parts_bytes ps ++ x ≡ parts_bytes qs ++ y

same_first : (p q : PartValue) (ps qs : List PartValue) (x y : List ℕ) → AllFit (p ∷ ps) → AllFit (q ∷ qs) → parts_bytes (p ∷ ps) ++ x ≡ parts_bytes (q ∷ qs)
    ++ y → SameFirst p q ps qs x y
same_first p q ps qs x y fp fq e =
    let one = parts.one_part p q (parts_bytes ps ++ x) (parts_bytes qs ++ y) fp.0 fq.0
    (sym (append_assoc (part_bytes p) (parts_bytes ps) x) ∙ e ∙ append_assoc (part_bytes q) (parts_bytes qs) y) in
    record { first = one.0; others = one.1 }

-- one part leads to one contents
same_step : (p q : PartValue) (before x y : Contents) → p ≡ q → after_part p before ≡ Some x → after_part q before ≡ Some y → x ≡ y
same_step p q before x y same px qy = same_some x y (sym px ∙ ap (λ part. after_part part before) same ∙ qy)

one_list : (ps qs : List PartValue) (before pr qr : Contents) (x y : List ℕ) → AllFit ps → AllFit qs → after_parts ps before ≡ Some pr
    → after_parts qs before ≡ Some qr
    → IsRefused x pr → IsRefused y qr → parts_bytes ps ++ x ≡ parts_bytes qs ++ y → ps ≡ qs
one_list [] [] before pr qr x y fp fq lp lq rp rq e = refl
one_list [] (q ∷ qs) before pr qr x y fp fq lp lq rp rq e =
    absurd (not_refused q qs y x before qr fq e lq (subst (IsRefused x) (sym (same_some before pr lp)) rp))
one_list (p ∷ ps) [] before pr qr x y fp fq lp lq rp rq e =
    absurd (not_refused p ps x y before pr fp (sym e) lp (subst (IsRefused y) (sym (same_some before qr lq)) rq))
one_list (p ∷ ps) (q ∷ qs) before pr qr x y fp fq lp lq rp rq e =
    let same = same_first p q ps qs x y fp fq e in
    let sp = first_step p ps before pr lp in
    let sq = first_step q qs before qr lq in
    let between : sq.between ≡ sp.between = sym (same_step p q before sp.between sq.between same.first sp.first sq.first) in
    let later = one_list ps qs sp.between pr qr x y fp.1 fq.1 sp.others (subst (λ c. after_parts qs c ≡ Some qr) between sq.others) rp rq same.others in
    ap (λ part. part ∷ ps) same.first ∙ ap (λ more. q ∷ more) later

pub one_leads : (bytes : List ℕ) (before x y : Contents) → Leads bytes before x → Leads bytes before y → x ≡ y
one_leads bytes before x y lx ly =
    let same = parts.one_list lx.parts ly.parts lx.fit ly.fit (sym lx.spelled ∙ ly.spelled) in
    same_some x y (sym lx.lead ∙ ap (λ ps. after_parts ps before) same ∙ ly.lead)

pub one_offset : (bytes : List ℕ) (before : Contents) (i j : ℕ) → IsSpoiled bytes before i → IsSpoiled bytes before j → i ≡ j
one_offset bytes before i j si sj =
    let same = one_list si.parts sj.parts before si.reached sj.reached si.rest sj.rest si.fit sj.fit si.lead sj.lead si.refused sj.refused
    (sym si.spelled ∙ sj.spelled) in
    si.offset ∙ ap (λ ps. length (parts_bytes ps)) same ∙ sym sj.offset

not_both : (ps qs : List PartValue) (before pr qr : Contents) (y : List ℕ) → AllFit ps → AllFit qs → after_parts ps before ≡ Some pr
    → after_parts qs before ≡ Some qr
    → y ≢ [] → IsRefused y qr → parts_bytes ps ≡ parts_bytes qs ++ y → ⊥
not_both [] [] before pr qr y fp fq lp lq some rq e = some (sym e)
not_both [] (q ∷ qs) before pr qr y fp fq lp lq some rq e = absurd cc
not_both (p ∷ ps) [] before pr qr y fp fq lp lq some rq e =
    not_refused p ps [] y before pr fp (sym e ∙ sym (append-nil (parts_bytes (p ∷ ps)))) lp (subst (IsRefused y) (sym (same_some before qr lq)) rq)
not_both (p ∷ ps) (q ∷ qs) before pr qr y fp fq lp lq some rq e =
    let same = same_first p q ps qs [] y fp fq (append-nil (parts_bytes (p ∷ ps)) ∙ e) in
    let sp = first_step p ps before pr lp in
    let sq = first_step q qs before qr lq in
    let between : sq.between ≡ sp.between = sym (same_step p q before sp.between sq.between same.first sp.first sq.first) in
    not_both ps qs sp.between pr qr y fp.1 fq.1 sp.others (subst (λ c. after_parts qs c ≡ Some qr) between sq.others) some rq
    (sym (append-nil (parts_bytes ps)) ∙ same.others)

pub leads_or_spoiled : (bytes : List ℕ) (before after : Contents) (i : ℕ) → Leads bytes before after → IsSpoiled bytes before i → ⊥
leads_or_spoiled bytes before after i leads spoiled =
    not_both leads.parts spoiled.parts before after spoiled.reached spoiled.rest leads.fit spoiled.fit leads.lead spoiled.lead spoiled.some spoiled.refused
    (sym leads.spelled ∙ spoiled.spelled)

-- ---- frames one after another

pub one_leads_on : (frames : List (List ℕ)) (before x y : Contents) → LeadOn frames before x → LeadOn frames before y → x ≡ y
one_leads_on [] before x y lx ly = sym lx ∙ ly
one_leads_on (frame ∷ frames) before x y (bx, fx, ox) (by, fy, oy) =
    let between : by ≡ bx = one_leads frame before by bx fy fx in
    one_leads_on frames bx x y ox (subst (λ c. LeadOn frames c y) between oy)

-- the frames before a spoiled one, and the offset in it
record SameSpoiled (f g : List (List ℕ)) (i j : ℕ) : Type 0 where
  first : f ≡ g
  within : i ≡ j

one_spoiled : (f g : List (List ℕ)) (a b : List ℕ) (fs gs : List (List ℕ)) (before x y : Contents) (i j : ℕ) → LeadOn f before x → LeadOn g before y
    → IsSpoiled a x i → IsSpoiled b y j
    → f ++ a ∷ fs ≡ g ++ b ∷ gs → SameSpoiled f g i j
one_spoiled [] [] a b fs gs before x y i j lx ly sa sb e =
    let same : a ≡ b = cc in
    let there : IsSpoiled a x j = subst (λ c. IsSpoiled a c j) (sym ly ∙ lx) (subst (λ frame. IsSpoiled frame y j) (sym same) sb) in
    record { first = refl; within = one_offset a x i j sa there }
one_spoiled [] (c ∷ g) a b fs gs before x y i j lx (between, first, others) sa sb e =
    let same : a ≡ c = cc in
    absurd (leads_or_spoiled c before between i first (subst (λ frame. IsSpoiled frame before i) same (subst (λ d. IsSpoiled a d i) (sym lx) sa)))
one_spoiled (c ∷ f) [] a b fs gs before x y i j (between, first, others) ly sa sb e =
    let same : b ≡ c = cc in
    absurd (leads_or_spoiled c before between j first (subst (λ frame. IsSpoiled frame before j) same (subst (λ d. IsSpoiled b d j) (sym ly) sb)))
one_spoiled (c ∷ f) (d ∷ g) a b fs gs before x y i j (bx, cx, ox) (by, dy, oy) sa sb e =
    let same : c ≡ d = cc in
    let rest : f ++ a ∷ fs ≡ g ++ b ∷ gs = cc in
    let between : by ≡ bx = one_leads c before by bx (subst (λ frame. Leads frame before by) (sym same) dy) cx in
    let later = one_spoiled f g a b fs gs bx x y i j ox (subst (λ z. LeadOn g z y) between oy) sa sb rest in
    record { first = ap (λ frame. frame ∷ f) same ∙ ap (λ more. d ∷ more) later.first; within = later.within }

pub one_place : (frames : List (List ℕ)) (before : Contents) (i j : ℕ) → AreSpoiled frames before i → AreSpoiled frames before j → i ≡ j
one_place frames before i j si sj =
    let same = one_spoiled si.first sj.first si.frame sj.frame si.others sj.others before si.reached sj.reached si.within sj.within si.lead sj.lead si.spoiled
    sj.spoiled (sym si.are ∙ sj.are) in
    si.offset ∙ ap (λ first. length (flat_map open_frame first) + 9 + si.within) same.first
    ∙ ap (λ n. length (flat_map open_frame sj.first) + 9 + n) same.within ∙ sym sj.offset

not_both_on : (f frames : List (List ℕ)) (a : List ℕ) (fs : List (List ℕ)) (before after x : Contents) (i : ℕ) → LeadOn frames before after
    → LeadOn f before x → IsSpoiled a x i
    → frames ≡ f ++ a ∷ fs → ⊥
not_both_on [] [] a fs before after x i lead lx sa e = absurd cc
not_both_on (c ∷ f) [] a fs before after x i lead lx sa e = absurd cc
not_both_on [] (d ∷ frames) a fs before after x i (between, first, others) lx sa e =
    let same : a ≡ d = cc in
    leads_or_spoiled d before between i first (subst (λ frame. IsSpoiled frame before i) same (subst (λ z. IsSpoiled a z i) (sym lx) sa))
not_both_on (c ∷ f) (d ∷ frames) a fs before after x i (bd, dd, od) (bc, cc', oc) sa e =
    let same : c ≡ d = cc in
    let rest : frames ≡ f ++ a ∷ fs = cc in
    let between : bc ≡ bd = one_leads c before bc bd cc' (subst (λ frame. Leads frame before bd) (sym same) dd) in
    not_both_on f frames a fs bd after x i od (subst (λ z. LeadOn f z x) between oc) sa rest

pub lead_or_spoiled : (frames : List (List ℕ)) (before after : Contents) (i : ℕ) → LeadOn frames before after → AreSpoiled frames before i → ⊥
lead_or_spoiled frames before after i lead spoiled =
    not_both_on spoiled.first frames spoiled.frame spoiled.others before after spoiled.reached spoiled.within lead spoiled.lead spoiled.spoiled spoiled.are
