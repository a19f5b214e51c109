-- Laws of every digest. Each is proved by the function of its name in `laws`.
use Rattle.std.specs.Prelude.{◌≡◌, ◌≤◌, ℕ, List}
use Rattle.std.specs.List.{AllByRecursion}
use Rattle.rf2_values.specs.Row.{RowValue, IsVersion}
use Rattle.history_model.specs.History.{History, IsHistory, rows_at, after_release}
use Rattle.store_copy.specs.Copying.{first_imports}
use Rattle.store_digest.specs.Digest.{text_of, digest_of}

-- Rows with the same text are the same rows: so the digests of different rows are digests of
-- different texts.
abbrev pub OneTextOneList : Type 0
OneTextOneList = (rows others : List RowValue) → AllByRecursion IsVersion rows
    → AllByRecursion IsVersion others → text_of rows ≡ text_of others → rows ≡ others

-- The digest of what a pin shows isn't changed by later imports.
abbrev pub DigestStays : Type 0
DigestStays = (h : History) (release : List RowValue) (pin : ℕ) → IsHistory h → pin ≤ h.imports
    → digest_of (rows_at pin (after_release h release).rows) ≡ digest_of (rows_at pin h.rows)

-- A copy of the first imports has, at each pin up to their number, the digest that the store has at
-- that pin: at the last one, that of all its rows.
abbrev pub CopiesHaveTheDigest : Type 0
CopiesHaveTheDigest = (h : History) (n pin : ℕ) → pin ≤ n
    → digest_of (rows_at pin (first_imports n h).rows) ≡ digest_of (rows_at pin h.rows)
