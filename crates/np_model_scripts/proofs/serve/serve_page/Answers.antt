use Rattle.np_model_scripts.proofs.Scripts.{page-read, page-refused_only, page-unbuilt_only}
use Rattle.np_model_scripts.proofs.serve.serve_page.Goals as goal

pub returns-clause-read : goal.returns-clause-read
returns-clause-read c = page-read c.one_page.ensures.law c.no_page_is_refused.ensures.law c.args.bytes.now c.read_page.result c.read_page.ensures.page

pub returns-clause-refused_only : goal.returns-clause-refused_only
returns-clause-refused_only c = page-refused_only c.no_page_is_refused.ensures.law c.one_refusal.ensures.law c.args.bytes.now c.read_page.result c.read_page.ensures.page

pub returns-clause-unbuilt_only : goal.returns-clause-unbuilt_only
returns-clause-unbuilt_only c = page-unbuilt_only c.one_page.ensures.law c.no_page_is_refused.ensures.law c.args.bytes.now c.read_page.result c.read_page.ensures.page
