use Rattle.np_ports.proofs.Entries.{put_is}
use Rattle.np_ports.proofs.sure_files.SureFilesFiles.put.Goals as goal

pub returns-clause-contents : goal.returns-clause-contents
returns-clause-contents c = put_is _ _ _ _ c.in_ok-put.ensures.ok
