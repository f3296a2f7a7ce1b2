-- The images that were worked out by hand are what they were worked out to be.
use Rattle.std.proofs.Common.{◌≡◌, ℕ, ◌==◌, arith, inl, inr, refl, sym, ap, ◌∙◌}
use Rattle.std.proofs.Common.{get_or}
use Rattle.std.proofs.Common.{Bool, true, false, nat_lt, List, [], ◌∷◌, ◌++◌, length, length-append}
use Rattle.std.specs.Prelude.{◌||◌, ◌&&◌, Some, None, if◌then◌else◌, option_and_then}
use Rattle.std.proofs.lemmas.Bool.{and_from}
use Rattle.std.specs.Ordering.{nat_cmp}
use Rattle.std.specs.FinMap as map
use Rattle.ax_disk.specs.declared.extent.Extent.TheVariants.{Root, A, B}
use Rattle.ax_frame.specs.declared.root_slot.RootSlot.TheVariants.{Closed, Live}
use Rattle.ax_frame.specs.RootSlot.{CanName}
use Rattle.ax_frame.specs.LogFrame.{open_frame}
use Rattle.ax_pages.specs.Area.{IsNoLogFrame}
use Rattle.ax_pages.specs.AfterPart.{most_documents}
use Rattle.ax_area.specs.declared.root.Counting.{Counting}
use Rattle.ax_area.specs.declared.root.RootChoice.TheVariants.{Counts}
use Rattle.ax_area.specs.declared.root.Which.TheVariants.{First, Second}
use Rattle.ax_area.specs.Root.{IsRoot, IsKnown, last_generation}
use Rattle.ax_area.specs.Items.{Item, item_bytes, number_at}
use Rattle.ax_area.specs.Kinds.{kind_in}
use Rattle.ax_area.specs.Changes.{Change, Meta, Document, Delta, change_by, change_of}
use Rattle.ax_area.specs.Contents.{Contents, Stored, no_contents, with_change}
use Rattle.ax_area.specs.Contents.{after_change, after_changes}
use Rattle.ax_area.specs.Told.{Lead}
use Rattle.ax_area.specs.Image.{IsLive, IsLiveWith, Says, IsNewer, IsDamaged}
use Rattle.ax_area.specs.Sample.{sample, sample_root, sample_frame, sample_told}
use Rattle.ax_area.specs.Sample.{sample_text, sample_delta, spoiled_frame, spoiled_sample}
use Rattle.ax_area.specs.Sample.{broken_sample, newer_sample, second_sample, twin_sample}
use Rattle.ax_area.specs.Sample.{worn_sample}
use Rattle.ax_area.specs.Sample.{mixed_sample, mixed_frame, plain_meta_part, versioned_told}
use Rattle.ax_area.specs.Sample.{later_sample, later_frame, later_told}
use Rattle.ax_area.proofs.EveryRoot.{second_or}

-- ---- the example

can_name : CanName 1 1 1
can_name = record {
  version_from = omega arith;
  version_fits = omega arith;
  one_of_two = inl refl;
  generation_fits = omega arith;
}

abbrev pub slot : Counting
slot = record { which = First; version = 1; area = A; generation = 1 }

pub sample_counts : IsRoot sample_root (Counts slot)
sample_counts = inr (record {
  first = Live 1 1 1;
  second = Closed;
  whole = omega arith;
  first_slot = (can_name, refl);
  second_slot = λ e. absurd cc;
  choice_is = refl;
})

pub slot_known : IsKnown 1 slot
slot_known = record { known = omega arith; rises = λ older. omega (arith, older) }

live : IsLive 1 slot (sample_frame ∷ []) sample
live = record {
  counts = sample_counts;
  known = slot_known;
  has = record {
    spans = (record { some = omega arith; fits = omega arith }, tt);
    rest = 0 ∷ [];
    spelled = refl;
    closed = (omega arith, λ e. absurd cc);
  };
}

pub sample_says : (contents : Contents) → Lead sample_told no_contents contents
    → Says 1 1 sample_told contents sample
sample_says contents lead = inr (record {
  slot = slot;
  version_is = refl;
  frames = sample_frame ∷ [];
  live = live;
  tell = (
    sample_told,
    [],
    refl,
    record {
      are = (
        record {
          at_is = refl;
          item = record {
            fit = (record { key_fits = omega arith; payload_fits = omega arith }, tt);
            pieces = refl;
          };
          says = refl;
        },
        (
          record {
            at_is = refl;
            item = record {
              fit = (record { key_fits = omega arith; payload_fits = omega arith }, tt);
              pieces = refl;
            };
            says = refl;
          },
          (
            record {
              at_is = refl;
              item = record {
                fit = (record { key_fits = omega arith; payload_fits = omega arith }, tt);
                pieces = refl;
              };
              says = refl;
            },
            tt,
          ),
        ),
      );
      spelled = refl;
    },
    refl,
  );
  lead = lead;
})

-- one document may be held
pub some_room : (map.contains_key no_contents.documents 1
    || nat_lt (map.len no_contents.documents) most_documents) ≡ true
some_room =
    second_or (map.contains_key no_contents.documents 1) _
    (ap (λ n. nat_lt n most_documents) (map.len-empty nat_cmp Stored))

first : Change
first = Document 1 (record { policy = 0; version = None; text = sample_text })

second : Change
second = Meta (record { next = 2; policy = 0; version = None })

pub sample_leads : (contents : Contents) × Lead sample_told no_contents contents
unfolding first second
sample_leads = (
  with_change (Delta 0 sample_delta) (with_change second (with_change first no_contents)),
  ap (λ b. option_and_then (after_changes (second ∷ Delta 0 sample_delta ∷ []))
      (if b then Some (with_change first no_contents) else None))
      (and_from _ true some_room refl),
)

-- ---- a part that no version has

no_such_kind : (item : Item) (follows : List ℕ) → spoiled_frame ≡ item_bytes item ++ follows
    → change_of 1 item ≡ None
no_such_kind item follows spelled =
    let is : item.first.kind ≡ 252 = sym (ap (λ (b : List ℕ). get_or b 0 0) spelled) in
    ap (λ kind. change_by (kind_in 1 kind) item.first item.pieces) is

pub sample_spoiled : IsDamaged 1 spoiled_sample A 9
sample_spoiled = inr (record {
  slot = slot;
  area_is = refl;
  frames = spoiled_frame ∷ [];
  live = record {
    counts = sample_counts;
    known = slot_known;
    has = record {
      spans = (record { some = omega arith; fits = omega arith }, tt);
      rest = 0 ∷ [];
      spelled = refl;
      closed = (omega arith, λ e. absurd cc);
    };
  };
  spoiled = inl (record {
    told = [];
    rest = spoiled_frame;
    begins = record { are = tt; spelled = refl };
    reached = no_contents;
    lead = refl;
    some = λ e. cc e;
    refused = λ item follows is spelled.
        ap (option_and_then (λ change. after_change change no_contents))
        (no_such_kind item follows spelled);
    place_is = refl;
  });
})

-- ---- a frame that is broken behind it

one_byte : (byte : ℕ) → IsNoLogFrame (byte ∷ [])
one_byte byte span rest is e =
    omega (arith, is.some, ap length e, length-append (open_frame span) rest)

pub sample_broken : IsDamaged 1 broken_sample A 63
sample_broken = inl (record {
  slot = slot;
  area_is = refl;
  counts = sample_counts;
  known = slot_known;
  broken = record {
    frames = spoiled_frame ∷ [];
    spans = (record { some = omega arith; fits = omega arith }, tt);
    rest = 1 ∷ [];
    spelled = refl;
    place = refl;
    not_closed = λ closed. closed.1 refl;
    no_frame = one_byte 1;
  };
})

-- ---- roots

pub sample_newer : IsNewer 1 2 newer_sample
sample_newer = record {
  slot = record { which = First; version = 2; area = A; generation = 1 };
  version_is = refl;
  counts = inr (record {
    first = Live 2 1 1;
    second = Closed;
    whole = omega arith;
    first_slot = (
      record {
        version_from = omega arith;
        version_fits = omega arith;
        one_of_two = inl refl;
        generation_fits = omega arith;
      },
      refl,
    );
    second_slot = λ e. absurd cc;
    choice_is = refl;
  });
  later = omega arith;
}

pub sample_second : Says 1 1 [] no_contents second_sample
sample_second = inr (record {
  slot = record { which = Second; version = 1; area = B; generation = 2 };
  version_is = refl;
  frames = [];
  live = record {
    counts = inr (record {
      first = Live 1 1 1;
      second = Live 1 2 2;
      whole = omega arith;
      first_slot = (can_name, refl);
      second_slot = (
        record {
          version_from = omega arith;
          version_fits = omega arith;
          one_of_two = inr refl;
          generation_fits = omega arith;
        },
        refl,
      );
      choice_is = refl;
    });
    known = record { known = omega arith; rises = λ older. omega (arith, older) };
    has = record {
      spans = tt;
      rest = 0 ∷ [];
      spelled = refl;
      closed = (omega arith, λ e. absurd cc);
    };
  };
  tell = refl;
  lead = refl;
})

pub sample_twin : IsDamaged 1 twin_sample Root 16
sample_twin = inl (inr (record {
  first = Live 1 1 1;
  second = Live 1 2 1;
  whole = omega arith;
  first_slot = (can_name, refl);
  second_slot = (
    record {
      version_from = omega arith;
      version_fits = omega arith;
      one_of_two = inr refl;
      generation_fits = omega arith;
    },
    refl,
  );
  choice_is = refl;
}))

worn_slot : Counting
worn_slot = record { which = First; version = 1; area = A; generation = last_generation }

pub sample_worn : IsDamaged 2 worn_sample Root 0
unfolding worn_slot
sample_worn = inr (record {
  slot = worn_slot;
  at_is = refl;
  counts = inr (record {
    first = Live 1 1 last_generation;
    second = Closed;
    whole = omega arith;
    first_slot = (
      record {
        version_from = omega arith;
        version_fits = omega arith;
        one_of_two = inl refl;
        generation_fits = omega arith;
      },
      refl,
    );
    second_slot = λ e. absurd cc;
    choice_is = refl;
  });
  older = omega arith;
  last = omega arith;
})

-- ---- what says no version behind what says one

versioned : Change
versioned = Document 1 (record { policy = 0; version = Some 7; text = sample_text })

reached : Contents
reached = with_change versioned no_contents

-- the meta that a test lets through leads nowhere
not_behind : (policy : Bool) (next : Contents)
    → (if policy && false then Some next else None) ≡ None
not_behind true next = refl
not_behind false next = refl

by_test : (test : Bool) (next policy : ℕ)
    → option_and_then (λ change. after_change change reached)
    (if test then Some (Meta (record { next = next; policy = policy; version = None })) else None)
    ≡ None
unfolding reached versioned
by_test true next policy = not_behind _ _
by_test false next policy = refl

refused_meta : (item : Item) (follows : List ℕ)
    → plain_meta_part ≡ item_bytes item ++ follows
    → option_and_then (λ change. after_change change reached) (change_of 2 item) ≡ None
refused_meta item follows spelled =
    let is : item.first.kind ≡ 1 = sym (ap (λ (b : List ℕ). get_or b 0 0) spelled) in
    ap (λ kind. option_and_then (λ change. after_change change reached)
    (change_by (kind_in 2 kind) item.first item.pieces)) is
    ∙ by_test
    (item.first.key == 0 && length item.first.payload == 8
    && nat_lt 0 (number_at 0 item.first.payload))
    (number_at 0 item.first.payload) (number_at 4 item.first.payload)

pub sample_mixed : IsDamaged 2 mixed_sample A 37
unfolding reached versioned
sample_mixed = inr (record {
  slot = record { which = First; version = 2; area = A; generation = 1 };
  area_is = refl;
  frames = mixed_frame ∷ [];
  live = record {
    counts = inr (record {
      first = Live 2 1 1;
      second = Closed;
      whole = omega arith;
      first_slot = (
        record {
          version_from = omega arith;
          version_fits = omega arith;
          one_of_two = inl refl;
          generation_fits = omega arith;
        },
        refl,
      );
      second_slot = λ e. absurd cc;
      choice_is = refl;
    });
    known = record { known = omega arith; rises = λ older. omega (arith, older) };
    has = record {
      spans = (record { some = omega arith; fits = omega arith }, tt);
      rest = 0 ∷ [];
      spelled = refl;
      closed = (omega arith, λ e. absurd cc);
    };
  };
  spoiled = inl (record {
    told = versioned_told;
    rest = plain_meta_part;
    begins = record {
      are = (
        record {
          at_is = refl;
          item = record {
            fit = (record { key_fits = omega arith; payload_fits = omega arith }, tt);
            pieces = refl;
          };
          says = refl;
        },
        tt,
      );
      spelled = refl;
    };
    reached = reached;
    lead = ap (λ b. option_and_then (after_changes [])
        (if b then Some (with_change versioned no_contents) else None))
        (and_from _ true some_room refl);
    some = λ e. cc e;
    refused = λ item follows is spelled. refused_meta item follows spelled;
    place_is = refl;
  });
})

-- ---- version 2

meta_later : Change
meta_later = Meta (record { next = 2; policy = 0; version = Some 8 })

later_contents : Contents
later_contents = with_change meta_later (with_change versioned no_contents)

later_is : IsLiveWith 2 2 later_told later_contents later_sample
unfolding later_contents meta_later versioned
later_is = record {
  slot = record { which = First; version = 2; area = A; generation = 1 };
  version_is = refl;
  frames = later_frame ∷ [];
  live = record {
    counts = inr (record {
      first = Live 2 1 1;
      second = Closed;
      whole = omega arith;
      first_slot = (
        record {
          version_from = omega arith;
          version_fits = omega arith;
          one_of_two = inl refl;
          generation_fits = omega arith;
        },
        refl,
      );
      second_slot = λ e. absurd cc;
      choice_is = refl;
    });
    known = record { known = omega arith; rises = λ older. omega (arith, older) };
    has = record {
      spans = (record { some = omega arith; fits = omega arith }, tt);
      rest = 0 ∷ [];
      spelled = refl;
      closed = (omega arith, λ e. absurd cc);
    };
  };
  tell = (
    later_told,
    [],
    refl,
    record {
      are = (
        record {
          at_is = refl;
          item = record {
            fit = (record { key_fits = omega arith; payload_fits = omega arith }, tt);
            pieces = refl;
          };
          says = refl;
        },
        (
          record {
            at_is = refl;
            item = record {
              fit = (record { key_fits = omega arith; payload_fits = omega arith }, tt);
              pieces = refl;
            };
            says = refl;
          },
          tt,
        ),
      );
      spelled = refl;
    },
    refl,
  );
  lead = ap (λ b. option_and_then (after_changes (meta_later ∷ []))
      (if b then Some (with_change versioned no_contents) else None))
      (and_from _ true some_room refl);
}

pub sample_later : (contents : Contents)
    × Says 2 2 later_told contents later_sample × (contents.next_version ≡ 8)
unfolding later_contents meta_later versioned
sample_later = (later_contents, inr later_is, refl)
