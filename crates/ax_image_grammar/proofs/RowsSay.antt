-- The images that were worked out by hand are outside the grammar where they were worked out to be.
use Rattle.std.proofs.Common.{◌≡◌, zero, arith, inl, inr, refl, ap, true}
use Rattle.std.proofs.Common.{[], ◌∷◌}
use Rattle.std.specs.Prelude.{Some, None, if◌then◌else◌, option_and_then}
use Rattle.std.proofs.lemmas.Bool.{and_from}
use Rattle.ax_disk.specs.declared.extent.Extent.TheVariants.{A}
use Rattle.ax_area.specs.Changes.{Change, Document, Gone, Policy, Base, Delta}
use Rattle.ax_area.specs.Contents.{Contents, no_contents, with_change, after_changes}
use Rattle.ax_area.specs.Image.{IsLiveWith}
use Rattle.ax_area.specs.Items.{single}
use Rattle.ax_area.specs.Told.{Lead}
use Rattle.ax_area.proofs.SampleSays.{slot, sample_counts, slot_known, some_room}
use Rattle.ax_image_grammar.specs.Grammar.{IsOutside}
use Rattle.ax_image_grammar.specs.Rows.{junk, text_frame, text_row, text_told}
use Rattle.ax_image_grammar.specs.Rows.{policy_frame, policy_row, policy_told, delta_frame}
use Rattle.ax_image_grammar.specs.Rows.{delta_row, delta_told}
use Rattle.ax_image_grammar.specs.Rows.{superseded_frame, superseded_row, superseded_told}
use Rattle.ax_image_grammar.proofs.Junk.{no_document, no_policy, no_delta}

-- ---- the text of a document that is gone

first : Change
first = Document 1 (record { policy = 0; version = None; text = junk })

pub text_contents : Contents
text_contents = with_change (Gone 1) (with_change first no_contents)

text_lead : Lead text_told no_contents text_contents
unfolding first text_contents
text_lead =
    ap (λ b. option_and_then (after_changes (Gone 1 ∷ []))
    (if b then Some (with_change first no_contents) else None)) (and_from _ true some_room refl)

pub text_live : IsLiveWith 1 1 text_told text_contents text_row
text_live = record {
  slot = slot;
  version_is = refl;
  frames = text_frame ∷ [];
  live = record {
    counts = sample_counts;
    known = slot_known;
    has = record {
      spans = (record { some = omega arith; fits = omega arith }, tt);
      rest = 0 ∷ [];
      spelled = refl;
      closed = (omega arith, λ e. absurd cc);
    };
  };
  tell = (
    text_told,
    [],
    refl,
    record {
      are = (
        record {
          at_is = refl;
          item = record {
            fit = (record { key_fits = omega arith; payload_fits = omega arith }, tt);
            pieces = refl;
          };
          says = refl;
        },
        (
          record {
            at_is = refl;
            item = record {
              fit = (record { key_fits = omega arith; payload_fits = omega arith }, tt);
              pieces = refl;
            };
            says = refl;
          },
          tt,
        ),
      );
      spelled = refl;
    },
    refl,
  );
  lead = text_lead;
}

pub text_outside : IsOutside 1 A 9 text_row
unfolding text_live
text_outside = inr (inl (record {
  version = 1;
  told = text_told;
  contents = text_contents;
  live = text_live;
  area_is = refl;
  one = record {
    at = 9;
    item = single (record { kind = 3; key = 1; payload = 0 ∷ junk });
    change = Document 1 (record { policy = 0; version = None; text = junk });
  };
  is_told = (zero, omega arith, refl);
  place = refl;
  bad = no_document 1;
}))

-- ---- the text of a policy that no document is indexed by

pub policy_live : IsLiveWith 1 1 policy_told (with_change (Policy 1 junk) no_contents) policy_row
policy_live = record {
  slot = slot;
  version_is = refl;
  frames = policy_frame ∷ [];
  live = record {
    counts = sample_counts;
    known = slot_known;
    has = record {
      spans = (record { some = omega arith; fits = omega arith }, tt);
      rest = 0 ∷ [];
      spelled = refl;
      closed = (omega arith, λ e. absurd cc);
    };
  };
  tell = (
    policy_told,
    [],
    refl,
    record {
      are = (
        record {
          at_is = refl;
          item = record {
            fit = (record { key_fits = omega arith; payload_fits = omega arith }, tt);
            pieces = refl;
          };
          says = refl;
        },
        tt,
      );
      spelled = refl;
    },
    refl,
  );
  lead = refl;
}

pub policy_area : policy_live.slot.area ≡ A
unfolding policy_live
policy_area = refl

pub policy_outside : IsOutside 1 A 9 policy_row
unfolding policy_live
policy_outside = inr (inl (record {
  version = 1;
  told = policy_told;
  contents = with_change (Policy 1 junk) no_contents;
  live = policy_live;
  area_is = refl;
  one = record {
    at = 9;
    item = single (record { kind = 2; key = 1; payload = junk });
    change = Policy 1 junk;
  };
  is_told = (zero, omega arith, refl);
  place = refl;
  bad = no_policy;
}))

-- ---- a delta of no term

pub delta_live : IsLiveWith 1 1 delta_told (with_change (Delta 0 (0 ∷ [])) no_contents) delta_row
delta_live = record {
  slot = slot;
  version_is = refl;
  frames = delta_frame ∷ [];
  live = record {
    counts = sample_counts;
    known = slot_known;
    has = record {
      spans = (record { some = omega arith; fits = omega arith }, tt);
      rest = 0 ∷ [];
      spelled = refl;
      closed = (omega arith, λ e. absurd cc);
    };
  };
  tell = (
    delta_told,
    [],
    refl,
    record {
      are = (
        record {
          at_is = refl;
          item = record {
            fit = (record { key_fits = omega arith; payload_fits = omega arith }, tt);
            pieces = refl;
          };
          says = refl;
        },
        tt,
      );
      spelled = refl;
    },
    refl,
  );
  lead = refl;
}

pub delta_area : delta_live.slot.area ≡ A
unfolding delta_live
delta_area = refl

pub delta_outside : IsOutside 1 A 9 delta_row
unfolding delta_live
delta_outside = inr (inl (record {
  version = 1;
  told = delta_told;
  contents = with_change (Delta 0 (0 ∷ [])) no_contents;
  live = delta_live;
  area_is = refl;
  one = record {
    at = 9;
    item = single (record { kind = 6; key = 0; payload = 0 ∷ [] });
    change = Delta 0 (0 ∷ []);
  };
  is_told = (zero, omega arith, refl);
  place = refl;
  bad = no_delta;
}))

-- ---- the same delta, superseded

pub superseded_live : IsLiveWith 1 1 superseded_told (with_change (Base 0 (0 ∷ 0 ∷ 0 ∷ []))
    (with_change (Delta 0 (0 ∷ [])) no_contents)) superseded_row
superseded_live = record {
  slot = slot;
  version_is = refl;
  frames = superseded_frame ∷ [];
  live = record {
    counts = sample_counts;
    known = slot_known;
    has = record {
      spans = (record { some = omega arith; fits = omega arith }, tt);
      rest = 0 ∷ [];
      spelled = refl;
      closed = (omega arith, λ e. absurd cc);
    };
  };
  tell = (
    superseded_told,
    [],
    refl,
    record {
      are = (
        record {
          at_is = refl;
          item = record {
            fit = (record { key_fits = omega arith; payload_fits = omega arith }, tt);
            pieces = refl;
          };
          says = refl;
        },
        (
          record {
            at_is = refl;
            item = record {
              fit = (record { key_fits = omega arith; payload_fits = omega arith }, tt);
              pieces = refl;
            };
            says = refl;
          },
          tt,
        ),
      );
      spelled = refl;
    },
    refl,
  );
  lead = refl;
}

pub superseded_outside : IsOutside 1 A 9 superseded_row
unfolding superseded_live
superseded_outside = inr (inl (record {
  version = 1;
  told = superseded_told;
  contents = with_change (Base 0 (0 ∷ 0 ∷ 0 ∷ [])) (with_change (Delta 0 (0 ∷ [])) no_contents);
  live = superseded_live;
  area_is = refl;
  one = record {
    at = 9;
    item = single (record { kind = 6; key = 0; payload = 0 ∷ [] });
    change = Delta 0 (0 ∷ []);
  };
  is_told = (zero, omega arith, refl);
  place = refl;
  bad = no_delta;
}))
