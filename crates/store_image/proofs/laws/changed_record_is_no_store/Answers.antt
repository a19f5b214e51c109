use Rattle.store_image.proofs.ChangedRecords.{changed_record_is_no_store}
use Rattle.store_image.proofs.laws.changed_record_is_no_store.Goals as goal

pub returns : goal.returns
returns c = changed_record_is_no_store
