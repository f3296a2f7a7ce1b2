-- Frames that are spoiled in the words of the store are spoiled in those of all versions, at the same
-- place, and the other way round.
use Rattle.std.proofs.Common.{◌≡◌, ℕ, ◌+◌, List, [], ◌∷◌, ◌++◌, length, Option, inl, inr, refl, sym}
use Rattle.std.proofs.Common.{ap, subst, ◌∙◌, arith, length-append}
use Rattle.std.specs.Prelude.{Some, None, option_and_then}
use Rattle.std.specs.List.{flat_map}
use Rattle.std.proofs.lemmas.List.{append-nil, append_assoc}
use Rattle.ax_frame.specs.LogFrame.{open_frame}
use Rattle.ax_frame.specs.Part.{part_bytes, parts_bytes}
use Rattle.ax_pages.specs.AfterPart.{after_part}
use Rattle.ax_pages.specs.Contents as log
use Rattle.ax_pages.specs.Leads as log_leads
use Rattle.ax_pages.specs.Leads.{LeadOn}
use Rattle.ax_pages.specs.declared.numbers.TheConstants.{NEWEST_VERSION}
use Rattle.ax_area.specs.Contents.{Contents, no_contents, after_change}
use Rattle.ax_area.specs.Told.{told_bytes, IsRefused, IsSpoiled, AreSpoiled}
use Rattle.ax_area.proofs.OneTelling.{some_or_none}
use Rattle.ax_area_laws.specs.Agree.{Agree}
use Rattle.ax_area_laws.proofs.Backward.{is_parts}
use Rattle.ax_area_laws.proofs.Refusing.{refused_item}
use Rattle.ax_area_laws.proofs.Stepping.{step}
use Rattle.ax_area_laws.proofs.Telling.{none_agree, tells}

-- ---- where bytes are refused

refused_too : (rest : List ℕ) (old : log.Contents) (new : Contents) → Agree old new
    → log_leads.IsRefused rest old → IsRefused NEWEST_VERSION rest new
refused_too rest old new agree refused item follows is spelled =
    refused_item item old new is agree (refused item.first (parts_bytes item.pieces ++ follows)
    (record {
      fit = is.fit.0;
      spelled = spelled ∙ append_assoc (part_bytes item.first) (parts_bytes item.pieces) follows;
    }))

refused_back : (rest : List ℕ) (old : log.Contents) (new : Contents) → Agree old new
    → IsRefused NEWEST_VERSION rest new → log_leads.IsRefused rest old
refused_back rest old new agree refused part follows begins = by_part (after_part part old) refl
  where
    by_part : (found : Option log.Contents) → after_part part old ≡ found → after_part part old ≡ None
    by_part None e = e
    by_part (Some after) e =
        let steps = step part old new begins.fit agree after e in
        let none = refused (record { first = part; pieces = [] }) follows steps.item
        (begins.spelled ∙ ap (λ bytes. bytes ++ follows) (sym (append-nil (part_bytes part)))) in
        absurd (some_or_none steps.reached (sym none
        ∙ ap (option_and_then (λ change. after_change change new)) steps.says ∙ steps.leads))

-- ---- one frame

spoiled_too : (frame : List ℕ) (at within : ℕ) (old : log.Contents) (new : Contents) → Agree old new
    → log_leads.IsSpoiled frame old within
    → IsSpoiled NEWEST_VERSION frame at new (at + within)
spoiled_too frame at within old new agree spoiled =
    let on = tells spoiled.parts at old spoiled.reached new spoiled.fit spoiled.lead agree in
    record {
      told = on.told;
      rest = spoiled.rest;
      begins = record {
        are = on.are;
        spelled = spoiled.spelled ∙ ap (λ bytes. bytes ++ spoiled.rest) on.spelled;
      };
      reached = on.reached;
      lead = on.lead;
      some = spoiled.some;
      refused = refused_too spoiled.rest spoiled.reached on.reached on.agree spoiled.refused;
      place_is = ap (λ n. at + n) (spoiled.offset ∙ ap length on.spelled);
    }

record SpoiledAt (frame : List ℕ) (at : ℕ) (old : log.Contents) (place : ℕ) : Type 0 where
  within : ℕ
  spoiled : log_leads.IsSpoiled frame old within
  place_is : place ≡ at + within

spoiled_back : (frame : List ℕ) (at place : ℕ) (old : log.Contents) (new : Contents) → Agree old new
    → IsSpoiled NEWEST_VERSION frame at new place → SpoiledAt frame at old place
spoiled_back frame at place old new agree spoiled =
    let back = is_parts spoiled.told at old new spoiled.reached spoiled.begins.are spoiled.lead agree in
    record {
      within = length (parts_bytes back.parts);
      spoiled = record {
        parts = back.parts;
        fit = back.fit;
        reached = back.after;
        lead = back.lead;
        rest = spoiled.rest;
        some = spoiled.some;
        spelled = spoiled.begins.spelled ∙ ap (λ bytes. bytes ++ spoiled.rest) back.spelled;
        refused = refused_back spoiled.rest back.after spoiled.reached back.agree spoiled.refused;
        offset = refl;
      };
      place_is = spoiled.place_is ∙ ap (λ bytes. at + length bytes) back.spelled;
    }

-- ---- frames one behind another

spoiled_on : (front : List (List ℕ)) (frame : List ℕ) (others : List (List ℕ)) (at within : ℕ)
    (old reached : log.Contents) (new : Contents) → LeadOn front old reached → Agree old new
    → log_leads.IsSpoiled frame reached within
    → AreSpoiled NEWEST_VERSION (front ++ frame ∷ others) at new
    (at + (length (flat_map open_frame front) + 9 + within))
spoiled_on [] frame others at within old reached new lead agree spoiled =
    inl (subst (IsSpoiled NEWEST_VERSION frame (at + 9) new) (omega arith)
    (spoiled_too frame (at + 9) within old new agree
    (subst (λ c. log_leads.IsSpoiled frame c within) (sym lead) spoiled)))
spoiled_on (f ∷ front) frame others at within old reached new (between, leads, more) agree spoiled =
    let one = tells leads.parts (at + 9) old between new leads.fit leads.lead agree in
    let later = spoiled_on front frame others (at + 9 + length f) within between reached one.reached
    more one.agree spoiled in
    inr (
      one.told,
      one.reached,
      record {
        are = one.are;
        spelled = leads.spelled ∙ one.spelled ∙ sym (append-nil (told_bytes one.told));
      },
      one.lead,
      subst (AreSpoiled NEWEST_VERSION (front ++ frame ∷ others) (at + 9 + length f) one.reached)
          (omega (arith, length-append (open_frame f) (flat_map open_frame front))) later,
    )

record SpoiledOn (frames : List (List ℕ)) (at : ℕ) (old : log.Contents) (place : ℕ) : Type 0 where
  offset : ℕ
  spoiled : log_leads.AreSpoiled frames old offset
  place_is : place ≡ at + offset

spoiled_on_back : (frames : List (List ℕ)) (at place : ℕ) (old : log.Contents) (new : Contents)
    → Agree old new → AreSpoiled NEWEST_VERSION frames at new place
    → SpoiledOn frames at old place
spoiled_on_back [] at place old new agree spoiled = absurd spoiled
spoiled_on_back (frame ∷ frames) at place old new agree (inl spoiled) =
    let one = spoiled_back frame (at + 9) place old new agree spoiled in
    record {
      offset = 9 + one.within;
      spoiled = record {
        first = [];
        reached = old;
        lead = refl;
        frame = frame;
        others = frames;
        are = refl;
        within = one.within;
        spoiled = one.spoiled;
        offset = refl;
      };
      place_is = omega (arith, one.place_is);
    }
spoiled_on_back (frame ∷ frames) at place old new agree (inr (told, between, begins, lead, more)) =
    let one = is_parts told (at + 9) old new between begins.are lead agree in
    let later = spoiled_on_back frames (at + 9 + length frame) place one.after between one.agree
    more in
    let there = later.spoiled in
    record {
      offset = length (flat_map open_frame (frame ∷ there.first)) + 9 + there.within;
      spoiled = record {
        first = frame ∷ there.first;
        reached = there.reached;
        lead = (
          one.after,
          record {
            parts = one.parts;
            fit = one.fit;
            spelled = begins.spelled ∙ append-nil (told_bytes told) ∙ one.spelled;
            lead = one.lead;
          },
          there.lead,
        );
        frame = there.frame;
        others = there.others;
        are = ap (λ more. frame ∷ more) there.are;
        within = there.within;
        spoiled = there.spoiled;
        offset = refl;
      };
      place_is = omega (
        arith,
        later.place_is,
        there.offset,
        length-append (open_frame frame) (flat_map open_frame there.first),
      );
    }

-- ---- from nothing

pub spoiled_alike : (frames : List (List ℕ)) (at : ℕ) → log_leads.AreSpoiled frames log.no_contents at
    → AreSpoiled NEWEST_VERSION frames 0 no_contents at
spoiled_alike frames at there =
    subst (λ fs. AreSpoiled NEWEST_VERSION fs 0 no_contents at) (sym there.are)
    (subst (AreSpoiled NEWEST_VERSION (there.first ++ there.frame ∷ there.others) 0 no_contents)
    (omega (arith, there.offset))
    (spoiled_on there.first there.frame there.others 0 there.within log.no_contents there.reached no_contents
    there.lead none_agree there.spoiled))

pub spoiled_alike_back : (frames : List (List ℕ)) (at : ℕ) → AreSpoiled NEWEST_VERSION frames 0 no_contents at
    → log_leads.AreSpoiled frames log.no_contents at
spoiled_alike_back frames at spoiled =
    let back = spoiled_on_back frames 0 at log.no_contents no_contents none_agree spoiled in
    subst (log_leads.AreSpoiled frames log.no_contents) (omega (arith, back.place_is)) back.spoiled
