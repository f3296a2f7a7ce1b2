-- Files byte by byte, worked out by hand from the document of the format: a store with one
-- document, the meta behind it and a delta of the first term page; and images that differ from it
-- at one place. From the store's own file format (docs/FORMAT.md, "An example"); no other document
-- has it.
use Rattle.std.specs.Prelude.{ℕ, List, [], ◌∷◌, ◌++◌, replicate, drop, Some, None}
use Rattle.ax_disk.specs.model.Image.{Image}
use Rattle.ax_area.specs.Items.{Item, single}
use Rattle.ax_area.specs.Changes.{Meta, Document, Delta}
use Rattle.ax_area.specs.Told.{Told}

-- ---- the example

-- sixteen bytes: an open slot of a version, an area and a generation, each below 256
abbrev pub open_slot : ℕ → ℕ → ℕ → List ℕ
open_slot version area generation =
    0x01 ∷ version ∷ 0x00 ∷ area
    ∷ generation ∷ 0x00 ∷ 0x00 ∷ 0x00 ∷ 0x00 ∷ 0x00 ∷ 0x00 ∷ 0x00
    ∷ 0x41 ∷ 0x58 ∷ 0x44 ∷ 0x42 ∷ []

-- two slots, and the last byte of a whole root
abbrev pub root_of : List ℕ → List ℕ → List ℕ
root_of first second = first ++ second ++ 0x45 ∷ []

abbrev pub no_slot : List ℕ
no_slot = replicate 16 0

abbrev pub sample_root : List ℕ
sample_root = root_of (open_slot 1 1 1) no_slot

-- {"id":"a"}
abbrev pub sample_text : List ℕ
sample_text = 0x7B ∷ 0x22 ∷ 0x69 ∷ 0x64 ∷ 0x22 ∷ 0x3A ∷ 0x22 ∷ 0x61 ∷ 0x22 ∷ 0x7D ∷ []

-- the term 01 61, the id `a`: 1 is added and none is dropped
abbrev pub sample_delta : List ℕ
sample_delta = 0x01 ∷ 0x00 ∷ 0x02 ∷ 0x01 ∷ 0x61 ∷ 0x01 ∷ 0x01 ∷ 0x00 ∷ []

-- the document, 20 bytes; the meta, 17 bytes; the delta, 17 bytes
abbrev pub sample_frame : List ℕ
sample_frame =
    0x03 ∷ 0x01 ∷ 0x00 ∷ 0x00 ∷ 0x00 ∷ 0x0B ∷ 0x00 ∷ 0x00 ∷ 0x00
    ∷ 0x00 ∷ 0x7B ∷ 0x22 ∷ 0x69 ∷ 0x64 ∷ 0x22 ∷ 0x3A ∷ 0x22 ∷ 0x61 ∷ 0x22 ∷ 0x7D
    ∷ 0x01 ∷ 0x00 ∷ 0x00 ∷ 0x00 ∷ 0x00 ∷ 0x08 ∷ 0x00 ∷ 0x00 ∷ 0x00
    ∷ 0x02 ∷ 0x00 ∷ 0x00 ∷ 0x00 ∷ 0x00 ∷ 0x00 ∷ 0x00 ∷ 0x00
    ∷ 0x06 ∷ 0x00 ∷ 0x00 ∷ 0x00 ∷ 0x00 ∷ 0x08 ∷ 0x00 ∷ 0x00 ∷ 0x00
    ∷ 0x01 ∷ 0x00 ∷ 0x02 ∷ 0x01 ∷ 0x61 ∷ 0x01 ∷ 0x01 ∷ 0x00 ∷ []

-- an open gate, and the length of 54 bytes
abbrev pub sample_head : List ℕ
sample_head =
    0x01 ∷ 0x36 ∷ 0x00 ∷ 0x00 ∷ 0x00 ∷ 0x00 ∷ 0x00 ∷ 0x00 ∷ 0x00 ∷ []

abbrev pub sample_area : List ℕ
sample_area = sample_head ++ sample_frame ++ 0x00 ∷ []

abbrev pub sample : Image
sample = record { root = sample_root; a = sample_area; b = [] }

abbrev pub sample_told : List Told
sample_told =
    record {
      at = 9;
      item = single (record { kind = 3; key = 1; payload = 0x00 ∷ sample_text });
      change = Document 1 (record { policy = 0; version = None; text = sample_text });
    }
    ∷ record {
      at = 29;
      item = single (record {
        kind = 1;
        key = 0;
        payload = 0x02 ∷ 0x00 ∷ 0x00 ∷ 0x00 ∷ 0x00 ∷ 0x00 ∷ 0x00 ∷ 0x00 ∷ [];
      });
      change = Meta (record { next = 2; policy = 0; version = None });
    }
    ∷ record {
      at = 46;
      item = single (record { kind = 6; key = 0; payload = sample_delta });
      change = Delta 0 sample_delta;
    }
    ∷ []

-- ---- a part that no version has, and a frame that is broken behind it

-- the same with another kind of its first part
abbrev pub spoiled_frame : List ℕ
spoiled_frame = 0xFC ∷ drop 1 sample_frame

abbrev pub spoiled_sample : Image
spoiled_sample = record {
  root = sample_root;
  a = sample_head ++ spoiled_frame ++ 0x00 ∷ [];
  b = [];
}

-- an open gate stands where the closed one is due, at 63, and nothing behind it
abbrev pub broken_sample : Image
broken_sample = record {
  root = sample_root;
  a = sample_head ++ spoiled_frame ++ 0x01 ∷ [];
  b = [];
}

-- ---- roots

-- a slot of version 2; the areas have not even a gate
abbrev pub newer_sample : Image
newer_sample = record { root = root_of (open_slot 2 1 1) no_slot; a = []; b = [] }

-- both slots are open, and the second has the greater generation; area A has not even a gate
abbrev pub second_sample : Image
second_sample = record {
  root = root_of (open_slot 1 1 1) (open_slot 1 2 2);
  a = [];
  b = 0x00 ∷ [];
}

-- both slots are open and have one generation
abbrev pub twin_sample : Image
twin_sample = record {
  root = root_of (open_slot 1 1 1) (open_slot 1 2 1);
  a = sample_area;
  b = sample_area;
}

-- a slot of the last generation
abbrev pub last_slot : List ℕ
last_slot =
    0x01 ∷ 0x01 ∷ 0x00 ∷ 0x01
    ∷ 0xFF ∷ 0xFF ∷ 0xFF ∷ 0xFF ∷ 0xFF ∷ 0xFF ∷ 0xFF ∷ 0xFF
    ∷ 0x41 ∷ 0x58 ∷ 0x44 ∷ 0x42 ∷ []

abbrev pub worn_sample : Image
worn_sample = record { root = root_of last_slot no_slot; a = sample_area; b = [] }

-- ---- version 2: a document that says its version, and a meta that says none behind it

-- a part of kind 7, 28 bytes: policy 0, version 7, {"id":"a"}
abbrev pub versioned_part : List ℕ
versioned_part =
    0x07 ∷ 0x01 ∷ 0x00 ∷ 0x00 ∷ 0x00 ∷ 0x13 ∷ 0x00 ∷ 0x00 ∷ 0x00
    ∷ 0x00 ∷ 0x07 ∷ 0x00 ∷ 0x00 ∷ 0x00 ∷ 0x00 ∷ 0x00 ∷ 0x00 ∷ 0x00
    ∷ 0x7B ∷ 0x22 ∷ 0x69 ∷ 0x64 ∷ 0x22 ∷ 0x3A ∷ 0x22 ∷ 0x61 ∷ 0x22 ∷ 0x7D ∷ []

-- a part of kind 1, 17 bytes
abbrev pub plain_meta_part : List ℕ
plain_meta_part =
    0x01 ∷ 0x00 ∷ 0x00 ∷ 0x00 ∷ 0x00 ∷ 0x08 ∷ 0x00 ∷ 0x00 ∷ 0x00
    ∷ 0x02 ∷ 0x00 ∷ 0x00 ∷ 0x00 ∷ 0x00 ∷ 0x00 ∷ 0x00 ∷ 0x00 ∷ []

-- an open gate, and the length of 45 bytes
abbrev pub mixed_head : List ℕ
mixed_head = 0x01 ∷ 0x2D ∷ 0x00 ∷ 0x00 ∷ 0x00 ∷ 0x00 ∷ 0x00 ∷ 0x00 ∷ 0x00 ∷ []

abbrev pub mixed_frame : List ℕ
mixed_frame = versioned_part ++ plain_meta_part

abbrev pub mixed_sample : Image
mixed_sample = record {
  root = root_of (open_slot 2 1 1) no_slot;
  a = mixed_head ++ mixed_frame ++ 0x00 ∷ [];
  b = [];
}

abbrev pub versioned_item : Item
versioned_item =
    single (record {
      kind = 7;
      key = 1;
      payload = 0x00 ∷ 0x07 ∷ 0x00 ∷ 0x00 ∷ 0x00 ∷ 0x00 ∷ 0x00 ∷ 0x00 ∷ 0x00 ∷ sample_text;
    })

abbrev pub versioned_told : List Told
versioned_told =
    record {
      at = 9;
      item = versioned_item;
      change = Document 1 (record { policy = 0; version = Some 7; text = sample_text });
    }
    ∷ []

-- ---- version 2: the same document, and a meta that says the next version

-- a part of kind 8, 25 bytes: next number 2, policy 0, next version 8
abbrev pub meta_payload : List ℕ
meta_payload =
    0x02 ∷ 0x00 ∷ 0x00 ∷ 0x00 ∷ 0x00 ∷ 0x00 ∷ 0x00 ∷ 0x00
    ∷ 0x08 ∷ 0x00 ∷ 0x00 ∷ 0x00 ∷ 0x00 ∷ 0x00 ∷ 0x00 ∷ 0x00 ∷ []

abbrev pub later_frame : List ℕ
later_frame =
    versioned_part
    ++ (0x08 ∷ 0x00 ∷ 0x00 ∷ 0x00 ∷ 0x00 ∷ 0x10 ∷ 0x00 ∷ 0x00 ∷ 0x00 ∷ []) ++ meta_payload

-- the frame has 53 bytes
abbrev pub later_sample : Image
later_sample = record {
  root = root_of (open_slot 2 1 1) no_slot;
  a = (0x01 ∷ 0x35 ∷ 0x00 ∷ 0x00 ∷ 0x00 ∷ 0x00 ∷ 0x00 ∷ 0x00 ∷ 0x00 ∷ []) ++ later_frame ++ 0x00 ∷
      [];
  b = [];
}

abbrev pub later_told : List Told
later_told =
    record {
      at = 9;
      item = versioned_item;
      change = Document 1 (record { policy = 0; version = Some 7; text = sample_text });
    }
    ∷ record {
      at = 37;
      item = single (record { kind = 8; key = 0; payload = meta_payload });
      change = Meta (record { next = 2; policy = 0; version = Some 8 });
    }
    ∷ []
