-- The reply to a line.
use Rattle.std.specs.Prelude.{ℕ, List, [], ◌∷◌, ◌++◌, length, codes, decimal, Option, Some, None}
use Rattle.std.specs.Prelude.{Result, Ok, Err}
use Rattle.std.specs.List.{flat_map}
use Rattle.hex.specs.Hex.{encode_lower}
use Rattle.rf2_values.specs.Row.{RowValue, canonical}
use Rattle.history_store.specs.declared.refusal.Refusal.TheVariants as store
use Rattle.history_store.specs.Refusals.{refusal_sign}
use Rattle.line_commands.specs.Requests.{spaced, unread_sign}
use Rattle.line_server.specs.declared.refusal.LineRefusal.{LineRefusal}
use Rattle.line_server.specs.declared.refusal.LineRefusal.TheVariants as refusals

-- the answer to a line that isn't refused
pub data Answer : Type 0 where
  Rows : List RowValue → Answer
  Ids : List ℕ → Answer
  Dates : List ℕ → Answer
  -- the words after `OK`
  Done : List (List ℕ) → Answer

-- the answer with the digits of a digest: two hexadecimal digits for each byte
abbrev pub digits_of : List ℕ → Answer
digits_of digest = Done (encode_lower digest ∷ [])

-- the lines of a reply: those of rows, identifiers or dates, and the last one
pub record ReplyValue : Type 0 where
  pub body : List ℕ
  pub last : List ℕ

abbrev pub line : List (List ℕ) → List ℕ
line words = spaced words ++ 10 ∷ []

-- the number and the name of a refusal
abbrev pub sign_of : LineRefusal → ℕ × List ℕ
sign_of (refusals.Unread reason) = unread_sign reason
sign_of refusals.PinRange = (44, codes "PinRange")
sign_of refusals.NoFolder = (45, codes "NoFolder")
sign_of (refusals.Store refusal) = refusal_sign refusal

-- the file and the line of a release at which it was refused
abbrev pub place_of : LineRefusal → List (List ℕ)
place_of (refusals.Store (store.Line file number fault)) = decimal file ∷ decimal number ∷ []
place_of (refusals.Store (store.Contradiction file number)) = decimal file ∷ decimal number ∷ []
place_of _ = []

abbrev pub place_words : Option (ℕ × ℕ) → List (List ℕ)
place_words None = []
place_words (Some place) = decimal place.0 ∷ decimal place.1 ∷ []

abbrev pub row_line : RowValue → List ℕ
row_line row = line (codes "ROW" ∷ canonical row ∷ [])

abbrev pub id_line : ℕ → List ℕ
id_line id = line (codes "ID" ∷ decimal id ∷ [])

abbrev pub date_line : ℕ → List ℕ
date_line date = line (codes "DATE" ∷ decimal date ∷ [])

-- one line for each row, identifier or date
abbrev pub body_of : Result Answer LineRefusal → List ℕ
body_of (Ok (Rows rows)) = flat_map row_line rows
body_of (Ok (Ids ids)) = flat_map id_line ids
body_of (Ok (Dates dates)) = flat_map date_line dates
body_of (Ok (Done words)) = []
body_of (Err refusal) = []

-- the number of these lines; or `OK` and its words; or a refusal's number, name, file and line
abbrev pub last_of : Result Answer LineRefusal → List ℕ
last_of (Ok (Rows rows)) = line (codes "END" ∷ decimal (length rows) ∷ [])
last_of (Ok (Ids ids)) = line (codes "END" ∷ decimal (length ids) ∷ [])
last_of (Ok (Dates dates)) = line (codes "END" ∷ decimal (length dates) ∷ [])
last_of (Ok (Done words)) = line (codes "OK" ∷ words)
last_of (Err refusal) =
    line (codes "ERR" ∷ decimal ((sign_of refusal).0) ∷ (sign_of refusal).1 ∷ place_of refusal)

abbrev pub reply_value : Result Answer LineRefusal → ReplyValue
reply_value outcome = record { body = body_of outcome; last = last_of outcome }

-- the bytes of the whole reply
abbrev pub bytes_of : ReplyValue → List ℕ
bytes_of reply = reply.body ++ reply.last
