-- Parts are taken one after another.
use Rattle.std.proofs.Common.{◌≡◌, ℕ, ◌+◌, ◌-◌, List, [], ◌∷◌, ◌++◌, length, None, refl, sym, ap, subst, ◌∙◌, length-append, arith}
use Rattle.std.specs.Prelude.{◌≢◌, option_and_then}
use Rattle.std.proofs.lemmas.List.{append_assoc}
use Rattle.ax_frame.specs.Part.{PartValue, part_bytes, parts_bytes, BeginsWithPart, NoPart}
use Rattle.ax_frame.proofs.Parts as parts
use Rattle.ax_pages.specs.AfterPart.{after_part, after_parts, kind_of}
use Rattle.ax_pages.specs.Leads.{IsSpoiled}
use Rattle.ax_store.specs.Kept.{Kept, Takes, offsets_after, offsets_after_parts}
use Rattle.ax_store.specs.Taking.{TakesPart, IsTakenTo}

pub not_begun : (bytes : List ℕ) (at : ℕ) (old : Kept) → IsTakenTo bytes at old old bytes
not_begun bytes at old = record {
  done = 0;
  len = omega arith;
  takes = λ new t. subst (λ n. Takes bytes n old new) (omega arith) t;
  spoiled = λ within s. subst (λ n. IsSpoiled bytes old.contents n) (omega arith) s;
}

-- nothing is left
pub all_taken : (bytes : List ℕ) (at : ℕ) (old now : Kept) (rest : List ℕ) → IsTakenTo bytes at old now rest → rest ≡ [] → Takes bytes at old now
all_taken bytes at old now rest taken none =
    taken.takes now (record { parts = []; fit = tt; spelled = none; lead = refl; offsets = refl })

module _ (bytes : List ℕ) (at : ℕ) (old now : Kept) (rest : List ℕ) (taken : IsTakenTo bytes at old now rest) where
  place_is : (here : ℕ) → here ≡ at + (length bytes - length rest) → here ≡ at + taken.done
  place_is here is = omega (arith, is, taken.len)

  -- no part stands there
  pub spoiled_by_none : rest ≢ [] → NoPart rest → IsSpoiled bytes old.contents (taken.done + 0)
  spoiled_by_none some none = taken.spoiled 0 (record {
    parts = [];
    fit = tt;
    reached = now.contents;
    lead = refl;
    rest = rest;
    some = some;
    spelled = refl;
    refused = λ part follows begins. absurd (none part follows begins);
    offset = refl;
  })

  module _ (part : PartValue) (after : List ℕ) (begins : BeginsWithPart rest part after) where
    -- a part stands there that is outside the format
    pub spoiled_by_part : after_part part now.contents ≡ None → IsSpoiled bytes old.contents (taken.done + 0)
    spoiled_by_part none = taken.spoiled 0 (record {
      parts = [];
      fit = tt;
      reached = now.contents;
      lead = refl;
      rest = rest;
      some = λ e. some_bytes (sym begins.spelled ∙ e);
      spelled = refl;
      refused = λ other follows is.
          let same = parts.one_part part other after follows begins.fit is.fit (sym begins.spelled ∙ is.spelled) in
          ap (λ p. after_part p now.contents) (sym same.0) ∙ none;
      offset = refl;
    })
      where
        some_bytes : part_bytes part ++ after ≡ [] → ⊥
        some_bytes e = cc

    module _ (next : Kept) (takes : TakesPart part (at + taken.done) now next) where
      longer : length rest ≡ length (part_bytes part) + length after
      longer = ap length begins.spelled ∙ length-append (part_bytes part) after

      takes_more : (new : Kept) → Takes after (at + (taken.done + length (part_bytes part))) next new → Takes rest (at + taken.done) now new
      takes_more new t = record {
        parts = part ∷ t.parts;
        fit = (begins.fit, t.fit);
        spelled = begins.spelled ∙ ap (λ more. part_bytes part ++ more) t.spelled;
        lead = ap (option_and_then (after_parts t.parts)) takes.lead ∙ t.lead;
        offsets = t.offsets
            ∙ ap (λ offsets. offsets_after_parts t.parts (at + (taken.done + length (part_bytes part))) offsets) takes.offsets
            ∙ ap (λ n. offsets_after_parts t.parts n (offsets_after (kind_of part.kind) part.key (at + taken.done) now.offsets)) (omega arith);
      }

      spoiled_more : (within : ℕ) → IsSpoiled after next.contents within → IsSpoiled rest now.contents (length (part_bytes part) + within)
      spoiled_more within s = record {
        parts = part ∷ s.parts;
        fit = (begins.fit, s.fit);
        reached = s.reached;
        lead = ap (option_and_then (after_parts s.parts)) takes.lead ∙ s.lead;
        rest = s.rest;
        some = s.some;
        spelled = begins.spelled ∙ ap (λ more. part_bytes part ++ more) s.spelled ∙ sym (append_assoc (part_bytes part) (parts_bytes s.parts) s.rest);
        refused = s.refused;
        offset = ap (λ n. length (part_bytes part) + n) s.offset ∙ sym (length-append (part_bytes part) (parts_bytes s.parts));
      }

      pub one_more : IsTakenTo bytes at old next after
      one_more = record {
        done = taken.done + length (part_bytes part);
        len = omega (arith, longer, taken.len);
        takes = λ new t. taken.takes new (takes_more new t);
        spoiled = λ within s.
            subst (λ n. IsSpoiled bytes old.contents n) (omega arith)
            (taken.spoiled (length (part_bytes part) + within) (spoiled_more within s));
      }

-- the same where the part's offset was counted by what is left
pub one_more_here : (bytes : List ℕ) (at here : ℕ) (old now : Kept) (rest : List ℕ) (taken : IsTakenTo bytes at old now rest)
    (part : PartValue) (after : List ℕ)
    → BeginsWithPart rest part after → (next : Kept)
    → here ≡ at + (length bytes - length rest) → TakesPart part here now next → IsTakenTo bytes at old next after
one_more_here bytes at here old now rest taken part after begins next is takes =
    one_more bytes at old now rest taken part after begins next (subst (λ n. TakesPart part n now next) {x = here} (omega (arith, is, taken.len)) takes)
