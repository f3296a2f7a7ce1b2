-- What a disk goes through while lines are served, one run after another.
use Rattle.std.proofs.Common.{◌≡◌, ◌⊎◌, inl, inr, ⊎_elim, ℕ, zero, suc, ◌+◌, ◌-◌, ◌<◌, ◌≤◌, List, [], ◌∷◌, ◌++◌}
use Rattle.std.proofs.Common.{length, take, refl, sym, ap, ◌∙◌, subst, length-append, arith}
use Rattle.std.proofs.lemmas.List.{take_all, take-append-le}
use Rattle.std.specs.List.{concat, flat_map}
use Rattle.ax_disk.specs.model.Image.{Image}
use Rattle.ax_disk.specs.model.Moments.{History, Progresses}
use Rattle.ax_disk.specs.model.Stays.{Rests, Turns}
use Rattle.ax_disk.specs.laws.MomentLaws.{elapses_start, elapses_weaken, progress_stays}
use Rattle.ax_disk.specs.laws.MomentLaws.{progress_within, progress_join}
use Rattle.ax_disk.specs.laws.StageLaws.{progress_weaken}
use Rattle.ax_disk.specs.laws.StaysLaws.{rests_weaken}
use Rattle.ax_container.specs.Container.{Container}
use Rattle.ax_image_pairs.specs.Indexed.{StandsForAll}
use Rattle.ax_machine.specs.Reply as reply
use Rattle.std.specs.Prelude.{codes, decimal}
use Rattle.ax_lines.specs.Refusals.{number_of, word_of}
use Rattle.ax_machine.specs.ReplyTexts.{reply_text, row_text, end_text}
use Rattle.ax_machine.specs.Run.{Outcome, Exchange, after_line, after_lines, reply_to, after, texts, text_of}
use Rattle.ax_script.specs.DiskScript.{StandsAfter, KeepsAcknowledged}
use Rattle.ax_documents.specs.Opening.{IsImageOf}
use Rattle.ax_script.specs.Progress.{Reaches, Passes, BreaksOff}

up_to_or_after : (t m : ℕ) → (t ≤ m) ⊎ (m < t)
up_to_or_after t m = grind arith

-- ---- the first lines of a run, and of one that goes on

pub after_past : (a : Container) (run later : List Exchange) (n : ℕ)
    → after_lines (length run + n) a (run ++ later) ≡ after_lines n (after a run) later
after_past a [] later n = ap (λ k. after_lines k a later) (omega arith)
after_past a (x ∷ xs) later n =
    let more : length (x ∷ xs) + n ≡ suc (length xs + n) = omega arith in
    ap (λ k. after_lines k a (x ∷ xs ++ later)) more
    ∙ after_past (after_line a x.line x.outcome) xs later n

pub after_within : (a : Container) (run later : List Exchange) (n : ℕ) → n ≤ length run
    → after_lines n a (run ++ later) ≡ after_lines n a run
after_within a run later n le = ap (after a) (take-append-le n run later le)

pub after_all : (a : Container) (run : List Exchange) (n : ℕ) → length run ≤ n
    → after_lines n a run ≡ after a run
after_all a run n le = ap (after a) (take_all n run le)

len_past : (a : Container) (run later : List Exchange) (m : ℕ)
    → length (concat (take (length run + m) (texts a (run ++ later))))
    ≡ length (text_of a run) + length (concat (take m (texts (after a run) later)))
len_past a [] later m =
    let none : length {A = Exchange} [] + m ≡ m = omega arith in
    let same : length (concat (take (length {A = Exchange} [] + m) (texts a later)))
    ≡ length (concat (take m (texts a later))) =
    ap (λ k. length (concat (take k (texts a later)))) none in
    omega (arith, same)
len_past a (x ∷ xs) later m =
    let more : length (x ∷ xs) + m ≡ suc (length xs + m) = omega arith in
    let next : Container = after_line a x.line x.outcome in
    let first = reply_text (reply_to a x.line x.outcome) in
    let same : length (concat (take (length (x ∷ xs) + m) (texts a (x ∷ xs ++ later))))
    ≡ length (first ++ concat (take (length xs + m) (texts next (xs ++ later)))) =
    ap (λ k. length (concat (take k (texts a (x ∷ xs ++ later))))) more in
    omega (
      arith,
      same,
      length-append first (concat (take (length xs + m) (texts next (xs ++ later)))),
      length-append first (text_of next xs),
      len_past next xs later m,
    )

len_within : (a : Container) (run later : List Exchange) (m : ℕ) → m ≤ length run
    → concat (take m (texts a (run ++ later))) ≡ concat (take m (texts a run))
len_within a [] later zero le = refl
len_within a [] later (suc m) le = absurd (omega (arith, le))
len_within a (x ∷ xs) later zero le = refl
len_within a (x ∷ xs) later (suc m) le =
    ap (λ rest. reply_text (reply_to a x.line x.outcome) ++ rest)
    (len_within (after_line a x.line x.outcome) xs later m (omega (arith, le)))

-- ---- each reply has some bytes

some_bytes : (xs ys : List ℕ) → 0 < length ys → 0 < length (xs ++ ys)
some_bytes xs ys some = omega (arith, length-append xs ys)

reply_some : (r : reply.Reply) → 0 < length (reply_text r)
reply_some reply.Ok = some_bytes (codes "ok") (10 ∷ []) (omega arith)
reply_some (reply.Doc text) = some_bytes (codes "doc " ++ text) (10 ∷ []) (omega arith)
reply_some (reply.Rows rows reply.End) =
    some_bytes (flat_map row_text rows) (end_text reply.End (length rows))
    (some_bytes (codes "end " ++ decimal (length rows)) (10 ∷ []) (omega arith))
reply_some (reply.Rows rows (reply.More token)) =
    some_bytes (flat_map row_text rows) (end_text (reply.More token) (length rows))
    (some_bytes (codes "more " ++ decimal (length rows) ++ codes " " ++ token) (10 ∷ []) (omega arith))
reply_some (reply.Refused why) =
    some_bytes (codes "err " ++ decimal (number_of why) ++ codes " " ++ word_of why) (10 ∷ [])
    (omega arith)

some_text : (b : Container) (more : List Exchange) (m : ℕ) → 0 < m → 0 < length more
    → 0 < length (concat (take m (texts b more)))
some_text b [] m some there = absurd (omega (arith, there))
some_text b (x ∷ xs) zero some there = absurd (omega (arith, some))
some_text b (x ∷ xs) (suc m) some there =
    let first = reply_text (reply_to b x.line x.outcome) in
    let rest = concat (take m (texts (after_line b x.line x.outcome) xs)) in
    omega (arith, length-append first rest, reply_some (reply_to b x.line x.outcome))

-- ---- what an image stands for at a moment of a run, and of one that goes on

stands_longer : (a : Container) (run later : List Exchange) (n : ℕ) (image : Image) → 0 ≤ n
    → n ≤ length run → StandsAfter a run n image → StandsAfter a (run ++ later) n image
stands_longer a run later n image from to (inl stands) =
    inl (subst (StandsForAll image) (sym (after_within a run later n to)) stands)
stands_longer a run later n image from to (inr stands) =
    ⊎_elim
    (λ (within : suc n ≤ length run).
    inr (subst (StandsForAll image) (sym (after_within a run later (suc n) within)) stands))
    (λ (at_end : length run < suc n).
    inl (subst (StandsForAll image)
    (after_all a run (suc n) (omega (arith, at_end)) ∙ sym (after_all a run n (omega (arith, at_end)))
    ∙ sym (after_within a run later n to)) stands))
    (up_to_or_after (suc n) (length run))

stands_past : (a : Container) (run later : List Exchange) (n : ℕ) (image : Image)
    → StandsAfter (after a run) later n image → StandsAfter a (run ++ later) (length run + n) image
stands_past a run later n image (inl stands) =
    inl (subst (StandsForAll image) (sym (after_past a run later n)) stands)
stands_past a run later n image (inr stands) =
    let next : length run + suc n ≡ suc (length run + n) = omega arith in
    inr (subst (StandsForAll image)
    (sym (after_past a run later (suc n)) ∙ ap (λ k. after_lines k a (run ++ later)) next) stands)

pub moments_longer : (a : Container) (run later : List Exchange) (old new : History)
    → Progresses old new 0 (length run) (StandsAfter a run)
    → Progresses old new 0 (length (run ++ later)) (StandsAfter a (run ++ later))
moments_longer a run later old new moments =
    progress_within old new 0 0 (length run) (length (run ++ later)) (StandsAfter a (run ++ later))
    (omega arith) (omega (arith, length-append run later))
    (progress_weaken old new 0 (length run) (StandsAfter a run) (StandsAfter a (run ++ later))
    (stands_longer a run later) moments)

moments_past : (a : Container) (run later : List Exchange) (mid new : History)
    → Progresses mid new 0 (length later) (StandsAfter (after a run) later)
    → Progresses mid new (length run) (length (run ++ later)) (StandsAfter a (run ++ later))
moments_past a run later mid new moments = record {
  stage = λ t. length run + moments.stage t;
  from_first = λ t. omega arith;
  to_last = λ t. omega (arith, moments.to_last t, length-append run later);
  never_falls = λ s t le. omega (arith, moments.never_falls s t le);
  each = elapses_weaken mid new (λ t image. StandsAfter (after a run) later (moments.stage t) image)
      (λ t image. StandsAfter a (run ++ later) (length run + moments.stage t) image)
      (λ t image after to has. stands_past a run later (moments.stage t) image has) moments.each;
}

pub moments_join : (a b : Container) (run later : List Exchange) (old mid new : History) → b ≡ after a run
    → Progresses old mid 0 (length run) (StandsAfter a run)
    → Progresses mid new 0 (length later) (StandsAfter b later)
    → Progresses old new 0 (length (run ++ later)) (StandsAfter a (run ++ later))
moments_join a b run later old mid new stands first second =
    progress_join old mid new 0 (length run) (length (run ++ later)) (StandsAfter a (run ++ later))
    (progress_weaken old mid 0 (length run) (StandsAfter a run) (StandsAfter a (run ++ later))
    (stands_longer a run later) first)
    (moments_past a run later mid new
    (subst (λ c. Progresses mid new 0 (length later) (StandsAfter c later)) stands second))

-- ---- one line

module _ (a : Container) (line : List ℕ) (outcome : Outcome) where
  abbrev one : List Exchange
  one = record { line = line; outcome = outcome } ∷ []

  turned : (image : Image) → IsImageOf a image ⊎ IsImageOf (after_line a line outcome) image
      → StandsAfter a one 0 image
  turned image (inl stands) = inl stands
  turned image (inr stands) = inr stands

  pub moments_one : (old new : History)
      → Turns old new (IsImageOf a) (IsImageOf (after_line a line outcome))
      → Progresses old new 0 1 (StandsAfter a one)
  moments_one old new turns =
      progress_within old new 0 0 0 1 (StandsAfter a one) (omega arith) (omega arith)
      (progress_stays old new 0 (StandsAfter a one)
      (elapses_weaken old new (λ t image. IsImageOf a image ⊎ IsImageOf (after_line a line outcome) image)
      (λ t image. StandsAfter a one 0 image) (λ t image after to has. turned image has) turns.time))

  pub reaches_served : (text : List ℕ) (image : Image) → IsImageOf (after_line a line outcome) image
      → Reaches a one text image
  reaches_served text image stands = record {
    count = 1;
    within = omega arith;
    stands = stands;
    enough = λ lines le _. le;
  }

  none_whole : (lines : ℕ) → lines ≤ 1 → length (concat (take lines (texts a one))) ≤ 0 → lines ≤ 0
  none_whole zero le short = omega arith
  none_whole (suc n) le short =
      absurd (omega (arith, short, some_text a one (suc n) (omega arith) (omega arith)))

  pub reaches_unserved : (image : Image) → IsImageOf a image → Reaches a one [] image
  reaches_unserved image stands = record {
    count = 0;
    within = omega arith;
    stands = stands;
    enough = none_whole;
  }

-- ---- what is reached, by runs one after another

pub reaches_all : (a now : Container) (run : List Exchange) (text : List ℕ) (image : Image)
    → now ≡ after a run → IsImageOf now image → Reaches a run text image
reaches_all a now run text image stands shows = record {
  count = length run;
  within = omega arith;
  stands = subst (StandsForAll image) (stands ∙ sym (after_all a run (length run) (omega arith))) shows;
  enough = λ lines le _. le;
}

enough_longer : (a : Container) (run later : List Exchange) (text : List ℕ) (count : ℕ)
    → length text ≤ length (text_of a run)
    → ((lines : ℕ) → lines ≤ length run → length (concat (take lines (texts a run))) ≤ length text
    → lines ≤ count)
    → (lines : ℕ) → lines ≤ length (run ++ later)
    → length (concat (take lines (texts a (run ++ later)))) ≤ length text → lines ≤ count
enough_longer a run later text count prefix enough lines le short =
    ⊎_elim
    (λ (within : lines ≤ length run).
    enough lines within (omega (arith, short, ap length (len_within a run later lines within))))
    (λ (past : length run < lines).
    let m : ℕ = lines - length run in
    let is : lines ≡ length run + m = omega (arith, past) in
    let some : 0 < length (concat (take m (texts (after a run) later))) =
    some_text (after a run) later m (omega (arith, past)) (omega (arith, past, le, length-append run later)) in
    let len = ap (λ k. length (concat (take k (texts a (run ++ later))))) is ∙ len_past a run later m in
    absurd (omega (arith, short, prefix, some, len)))
    (up_to_or_after lines (length run))

pub reaches_longer : (a : Container) (run later : List Exchange) (text : List ℕ) (image : Image)
    → length text ≤ length (text_of a run) → Reaches a run text image
    → Reaches a (run ++ later) text image
reaches_longer a run later text image prefix r = record {
  count = r.count;
  within = omega (arith, r.within, length-append run later);
  stands = subst (StandsForAll image) (sym (after_within a run later r.count r.within)) r.stands;
  enough = enough_longer a run later text r.count prefix r.enough;
}

enough_past : (a : Container) (run later : List Exchange) (text other : List ℕ) (count : ℕ)
    → length text ≡ length (text_of a run)
    → ((lines : ℕ) → lines ≤ length later
    → length (concat (take lines (texts (after a run) later))) ≤ length other → lines ≤ count)
    → (lines : ℕ) → lines ≤ length (run ++ later)
    → length (concat (take lines (texts a (run ++ later)))) ≤ length (text ++ other)
    → lines ≤ length run + count
enough_past a run later text other count whole enough lines le short =
    ⊎_elim
    (λ (within : lines ≤ length run). omega (arith, within))
    (λ (past : length run < lines).
    let m : ℕ = lines - length run in
    let is : lines ≡ length run + m = omega (arith, past) in
    let len = ap (λ k. length (concat (take k (texts a (run ++ later))))) is ∙ len_past a run later m in
    let there = enough m (omega (arith, le, past, length-append run later))
    (omega (arith, short, whole, len, length-append text other)) in
    omega (arith, there, is))
    (up_to_or_after lines (length run))

pub reaches_past : (a b : Container) (run later : List Exchange) (text other : List ℕ) (image : Image)
    → b ≡ after a run → length text ≡ length (text_of a run) → Reaches b later other image
    → Reaches a (run ++ later) (text ++ other) image
reaches_past a b run later text other image stands whole reached =
    let r = subst (λ c. Reaches c later other image) stands reached in
    record {
      count = length run + r.count;
      within = omega (arith, r.within, length-append run later);
      stands = subst (StandsForAll image) (sym (after_past a run later r.count)) r.stands;
      enough = enough_past a run later text other r.count whole r.enough;
    }

-- every acknowledged line is in the prefix that is reached
pub reaches_keeps : (a : Container) (run : List Exchange) (text : List ℕ) (image : Image)
    → Reaches a run text image → KeepsAcknowledged a run text image
reaches_keeps a run text image r = record {
  count = r.count;
  within = r.within;
  stands = r.stands;
  acknowledged = λ lines are. r.enough lines are.within
      (omega (
        arith,
        ap length are.written,
        length-append (concat (take lines (texts a run))) are.rest,
      ));
}

-- ---- the parts of a run on the disk

module _ (honest : Type 0) where
  pub passes_nothing : (a : Container) (here : History) → (honest → Rests here (IsImageOf a))
      → Passes honest a [] a here here
  passes_nothing a here rests = record {
    moments = λ h. progress_stays here here 0 (StandsAfter a []) (elapses_start here (λ _ image. StandsAfter a [] 0 image));
    rests = rests;
  }

  pub passes_on : (a b c : Container) (run later : List Exchange) (old mid new : History)
      → b ≡ after a run → Passes honest a run b old mid → Passes honest b later c mid new
      → Passes honest a (run ++ later) c old new
  passes_on a b c run later old mid new stands first second = record {
    moments = λ h. moments_join a b run later old mid new stands (first.moments h) (second.moments h);
    rests = second.rests;
  }

  pub breaks_off_after : (a b : Container) (run later : List Exchange) (text other : List ℕ)
      (old mid new : History) → b ≡ after a run → text ≡ text_of a run
      → Passes honest a run b old mid → BreaksOff honest b later other mid new
      → BreaksOff honest a (run ++ later) (text ++ other) old new
  breaks_off_after a b run later text other old mid new stands whole first second = record {
    moments = λ h. moments_join a b run later old mid new stands (first.moments h) (second.moments h);
    rests = λ h. rests_weaken new (Reaches b later other) (Reaches a (run ++ later) (text ++ other))
        (λ image r. reaches_past a b run later text other image stands (ap length whole) r)
        (second.rests h);
  }

  pub breaks_off_longer : (a : Container) (run later : List Exchange) (text : List ℕ)
      (old new : History) → length text ≤ length (text_of a run)
      → BreaksOff honest a run text old new → BreaksOff honest a (run ++ later) text old new
  breaks_off_longer a run later text old new prefix off = record {
    moments = λ h. moments_longer a run later old new (off.moments h);
    rests = λ h. rests_weaken new (Reaches a run text) (Reaches a (run ++ later) text)
        (λ image r. reaches_longer a run later text image prefix r) (off.rests h);
  }

  -- all lines of the run are passed
  pub breaks_off_behind : (a now : Container) (run : List Exchange) (text : List ℕ)
      (old new : History) → now ≡ after a run
      → Passes honest a run now old new → BreaksOff honest a run text old new
  breaks_off_behind a now run text old new stands passed = record {
    moments = passed.moments;
    rests = λ h. rests_weaken new (IsImageOf now) (Reaches a run text)
        (λ image shows. reaches_all a now run text image stands shows) (passed.rests h);
  }
