-- Files that are read in order, one file on.
use Rattle.std.proofs.Common.{◌≡◌, ℕ, List, [], take, drop, refl}
use Rattle.vkb_outside.specs.Shelf.{Files}
use Rattle.vkb_tool.specs.Tags.{read_fault, texts_of}

-- the first so many of the names were read, and so much room is left
pub record IsReadTo (files : Files) (names : List (List ℕ)) (most at : ℕ) (texts : List (List ℕ)) (room : ℕ) : Type 0 where
  pub texts_are : texts ≡ texts_of files (take at names)
  pub ahead : read_fault files most names ≡ read_fault files room (drop at names)

-- nothing was read yet
pub none_read : (files : Files) (names : List (List ℕ)) (most : ℕ) (texts : List (List ℕ)) → texts ≡ [] → IsReadTo files names most 0 texts most
none_read files names most texts none = record { texts_are = none; ahead = refl }
